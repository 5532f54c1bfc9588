-- A memory right after opening agrees with the blank ledger, and agreement shows in the roots.
use Rattle.std.proofs.Common.{◌≡◌, ℕ, zero, suc, ◌*◌, ◌<◌, ◌≤◌, List, [], length, get_or, replicate, is_some, Some, None, Option, refl, inl, inr, arith}
use Rattle.ledger.proofs.Flip.{Agrees}
use Rattle.ledger.proofs.Roots.{WordStands, HoldStands}
use Rattle.ledger.proofs.Running.{Beside}
use Rattle.ledger.proofs.Same as equal
use Rattle.ledger.proofs.Seen.{Used, Never}
use Rattle.ledger.proofs.Sound.{Past, Sound}
use Rattle.ledger.proofs.Words.{see}
use Rattle.ledger.specs.Law.{Root, register, hold, word_of, entry_of, SameRoots}
use Rattle.ledger.specs.Ledger.{Ledger, Entry, Reach, of_register, of_hold, of_head, of_tail, Few}
use Rattle.ledger.specs.Runs.{blank}
use Rattle.machine.specs.Heap.{empty_marks}
use Rattle.machine.specs.Holds.{hold_at}
use Rattle.machine.specs.Machine as machine
use Rattle.machine.specs.Machine.{Machine, Terms, fresh_machine}
use Rattle.std.proofs.lemmas.Bool.{cases_lt, lt-ltb, le-ltb}

get_or_same : {Y : Type 0} (n i : ℕ) (y : Y) → get_or (replicate n y) i y ≡ y
get_or_same zero i y = refl
get_or_same (suc n) zero y = refl
get_or_same (suc n) (suc i) y = get_or_same n i y

no_reach : {A : Type 0} (number c : ℕ) → Reach (blank {A = A} number) c → ⊥
no_reach number c (of_register r _ s e) = let z : ◌≡◌ {A = ℕ} 0 1 = cc in omega arith
no_reach number c (of_hold p _ s e) = let z : ◌≡◌ {A = ℕ} 0 1 = cc in omega arith
no_reach number c (of_head b _ r e) = let z : ◌≡◌ {A = ℕ} 0 1 = cc in omega arith
no_reach number c (of_tail b _ r e) = let z : ◌≡◌ {A = ℕ} 0 1 = cc in omega arith

pub few_blank : {A : Type 0} (n number : ℕ) → Few n (blank {A = A} number)
few_blank n number = record { all = []; short = omega arith; has = λ c r. absurd (no_reach number c r) }

module _ {A : Type 0} (meant : ℕ → Option A) (Q : Ledger A → Type 0) (ws : List ℕ) (size : ℕ) (terms : Terms) (big : 4 * size ≤ length ws) where
  unused : (i : ℕ) → Used (empty_marks size 0) i → ⊥
  unused i u = let h : i < 0 = u.1 u.0 in omega arith

  abbrev start : Past A
  start = record { owner = λ i. i; marks = empty_marks size 0; at = blank terms.number }

  fresh_sound : Sound meant (record { owner = λ i. i; marks = empty_marks size 0; at = blank terms.number }) (λ i. i) (fresh_machine ws size terms).heap (blank {A = A} terms.number).row
  fresh_sound =
      record {
        big = big;
        inv = record {
          order = record { s_b = omega arith; b_t = omega arith; t_h = omega arith };
          cells = λ i u. absurd (unused i u);
          clean = λ i u c. absurd (unused i u);
          forwarded = λ i j l e. absurd (unused j l.0);
          waiting = λ j l w. absurd (unused j l.0);
          own_in = λ i u. absurd (unused i u);
          old_in = λ j l. absurd (unused j l.0);
          own_one = λ i k u w e. absurd (unused i u);
          old_one = λ j k l n e. absurd (unused j l.0);
          meet = λ i j u l e. absurd (unused i u);
          came = λ i h. absurd (omega arith);
        };
        prior = omega arith;
        past_size = refl;
        past_order = record { s_b = omega arith; b_t = omega arith; t_h = omega arith };
      }

  pub fresh_beside : Q (blank terms.number) → Beside meant Q (fresh_machine ws size terms) (blank terms.number)
  unfolding see
  fresh_beside now =
      record {
        agrees = record {
          o = start;
          own = λ i. i;
          sound = fresh_sound;
          roomy = λ b. absurd (omega arith);
          registers = λ r s. rw (get_or_same {Y = ℕ} 16 r 0) refl;
          holds = λ p s. rw (get_or_same {Y = Option ℕ} 8 p None) tt;
          sixteen = refl;
          eight = refl;
          past = now;
        };
        opened = refl;
        number = refl;
      }

-- What a root has on both sides.
module _ {A : Type 0} (meant : ℕ → Option A) (Q : Ledger A → Type 0) (m : Machine) (l : Ledger A) (agrees : Agrees meant Q m l) where
  abbrev pub Stood : ℕ → Entry A → Type 0
  Stood w e = WordStands meant agrees.o l.row Never agrees.own m.heap w e

  hold_some : (w : Option ℕ) (e : Option (Entry A)) → HoldStands meant agrees.o l.row Never agrees.own m.heap w e → is_some w ≡ is_some e
  hold_some None None h = refl
  hold_some None (Some e) h = absurd h
  hold_some (Some w) None h = absurd h
  hold_some (Some w) (Some e) h = refl

  hold_stood : (w : Option ℕ) (e : Option (Entry A)) (x : ℕ) (y : Entry A) → HoldStands meant agrees.o l.row Never agrees.own m.heap w e → w ≡ Some x → e ≡ Some y → Stood x y
  hold_stood None e x y h p q = let z : ◌≡◌ {A = ℕ} 0 1 = cc in absurd (omega arith)
  hold_stood (Some w) None x y h p q = absurd h
  hold_stood (Some w) (Some e) x y h p q = let a : x ≡ w = cc in let b : y ≡ e = cc in rw (a, b) h

  pub roots_taken : (p : Root) → is_some (word_of m p) ≡ is_some (entry_of l p)
  roots_taken (register r) = elim (cases_lt r 16) [ inl s ↦ rw (lt-ltb r 16 s) | inr s ↦ rw (le-ltb r 16 s) ]
  roots_taken (hold p) = elim (cases_lt p 8) [ inl s ↦ rw (lt-ltb p 8 s) (hold_some (hold_at m p) (l.holds p) (agrees.holds p s)) | inr s ↦ rw (le-ltb p 8 s) ]

  pub root_stands : (p : Root) (w : ℕ) (e : Entry A) → word_of m p ≡ Some w → entry_of l p ≡ Some e → Stood w e
  root_stands (register r) w e a b = elim (cases_lt r 16) [
    | inl s ↦
        let a' : Some (machine.register m r) ≡ Some w = rw (lt-ltb r 16 s) at a in
        let b' : Some (l.registers r) ≡ Some e = rw (lt-ltb r 16 s) at b in
        let x : w ≡ machine.register m r = cc in
        let y : e ≡ l.registers r = cc in
        rw (x, y) (agrees.registers r s)
    | inr s ↦ let a' : None ≡ Some w = rw (le-ltb r 16 s) at a in let z : ◌≡◌ {A = ℕ} 0 1 = cc in absurd (omega arith)
  ]
  root_stands (hold p) w e a b = elim (cases_lt p 8) [
    | inl s ↦ hold_stood (hold_at m p) (l.holds p) w e (agrees.holds p s) (rw (lt-ltb p 8 s) at a) (rw (lt-ltb p 8 s) at b)
    | inr s ↦ let a' : None ≡ Some w = rw (le-ltb p 8 s) at a in let z : ◌≡◌ {A = ℕ} 0 1 = cc in absurd (omega arith)
  ]

  pub same_roots : ((a : A) (c d : ℕ) → meant c ≡ Some a → meant d ≡ Some a → c ≡ d) → SameRoots m l
  same_roots one =
      record {
        taken = roots_taken;
        same_entry = λ p q w e e' a b c d. equal.same_entry meant one agrees.o agrees.own m.heap l.row agrees.sound w w e e' (root_stands p w e a c) (root_stands q w e' b d) refl;
        same_word = λ p q w w' e a b c d. equal.same_word meant one agrees.o agrees.own m.heap l.row agrees.sound w w' e e (root_stands p w e a c) (root_stands q w' e b d) refl;
      }
