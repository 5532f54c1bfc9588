-- A flip with the scan over keeps memory and ledger together.
use Rattle.std.proofs.Common.{◌≡◌, ℕ, ◌<◌, ◌≤◌, Bool, true, false, cond, not, List, length, get_or, Some, None, Option, refl, ap, ◌∙◌, arith}
use Rattle.ledger.proofs.Roots.{WordStands, HoldStands, word_on, hold_on, word_root, hold_root, Roots, along_keeps}
use Rattle.ledger.proofs.Seen.{Never, stands_on}
use Rattle.ledger.proofs.Sound.{view_of, seen, Past, Live, Sound, halves}
use Rattle.ledger.proofs.Turn.{swap, Turned, swap_stands, turn_keeps}
use Rattle.ledger.proofs.Words.{see_swap}
use Rattle.ledger.specs.Ledger.{Ledger, Entry, cell, Reach, of_register, of_hold, of_head, of_tail}
use Rattle.machine.specs.Heap as heap
use Rattle.machine.specs.Heap.{Heap, move, move_hold, along, trade, used}
use Rattle.machine.specs.Machine.{Machine, flip}

-- Machine and ledger agree: every register and every hold stands for what the ledger has there.
-- Q is what was true of the ledger when the halves last traded places.
pub record Agrees {X : Type 0} (meant : ℕ → Option X) (Q : Ledger X → Type 0) (m : Machine) (l : Ledger X) : Type 0 where
  pub o : Past X
  pub own : ℕ → ℕ
  pub sound : Sound meant o own m.heap l.row
  -- while cells are left to scan, the live cells have room
  pub roomy : m.heap.marks.scanned < m.heap.marks.copied → m.heap.marks.prior ≤ m.heap.marks.top
  pub registers : (r : ℕ) → r < 16 → WordStands meant o l.row Never own m.heap (get_or m.roots.registers r 0) (l.registers r)
  pub holds : (p : ℕ) → p < 8 → HoldStands meant o l.row Never own m.heap (get_or m.roots.holds p None) (l.holds p)
  pub sixteen : length m.roots.registers ≡ 16
  pub eight : length m.roots.holds ≡ 8
  pub past : Q o.at

flipped_base : (size : ℕ) (upper : Bool) → cond (not upper) size 0 ≡ cond upper 0 size
flipped_base size true = refl
flipped_base size false = refl

flipped_other : (size : ℕ) (upper : Bool) → cond (not upper) 0 size ≡ cond upper size 0
flipped_other size true = refl
flipped_other size false = refl

here-trade : (h : Heap) → heap.here (trade h) ≡ heap.there h
here-trade h = flipped_base h.marks.size h.upper

there-trade : (h : Heap) → heap.there (trade h) ≡ heap.here h
there-trade h = flipped_other h.marks.size h.upper

module _ {X : Type 0} (meant : ℕ → Option X) (o : Past X) (own : ℕ → ℕ) (h : Heap) (l : Ledger X) (sound : Sound meant o own h l.row) (over : h.marks.scanned ≡ h.marks.copied) where
  seen_trade : (w : ℕ) → seen (trade h) w ≡ swap (seen h w)
  seen_trade w = rw (here-trade h, there-trade h) (see_swap (length h.words) h.marks.size (heap.here h) (heap.there h) (halves h sound.big) w)

  past : Past X
  past = record { owner = own; marks = h.marks; at = l }

  turned : Turned (view_of h) (view_of (trade h)) h.marks (trade h).marks
  turned =
      record {
        old_heads = λ j s. rw (here-trade h, there-trade h) (see_swap (length h.words) h.marks.size (heap.here h) (heap.there h) (halves h sound.big) _);
        old_tails = λ j s. rw (here-trade h, there-trade h) (see_swap (length h.words) h.marks.size (heap.here h) (heap.there h) (halves h sound.big) _);
        scanned = refl;
        copied = refl;
        top = refl;
        size = refl;
      }

  trade_sound : Sound meant (record { owner = own; marks = h.marks; at = l }) own (trade h) l.row
  trade_sound =
      record {
        big = sound.big;
        inv = turn_keeps meant (Live o) (Reach l) own o.owner (view_of h) (view_of (trade h)) h.marks (trade h).marks l.row sound.inv over turned (λ b c r e. of_head b c r e) (λ b c r e. of_tail b c r e);
        prior = refl;
        past_size = refl;
        past_order = sound.inv.order;
      }

  -- a clean root in reach, seen from the other half, is an old one
  word_turns : (w : ℕ) (e : Entry X) → ((c : ℕ) → e ≡ cell c → Reach l c) → WordStands meant o l.row Never own h w e → WordStands meant (record { owner = own; marks = h.marks; at = l }) l.row (Live (record { owner = own; marks = h.marks; at = l })) own (trade h) w e
  word_turns w e r s =
      rw (seen_trade w) (stands_on meant (swap (seen h w)) e (λ i n. absurd n) (λ j x. (x, refl)) (swap_stands meant h.marks (Reach l) own own o.owner (seen h w) e r s))

  hold_turns : (w : Option ℕ) (e : Option (Entry X)) → ((c : ℕ) → e ≡ Some (cell c) → Reach l c) → HoldStands meant o l.row Never own h w e → HoldStands meant (record { owner = own; marks = h.marks; at = l }) l.row (Live (record { owner = own; marks = h.marks; at = l })) own (trade h) w e
  hold_turns None None r s = s
  hold_turns None (Some e) r s = s
  hold_turns (Some w) None r s = s
  hold_turns (Some w) (Some e) r s = word_turns w e (λ c q. r c (ap Some q)) s

module _ {X : Type 0} (meant : ℕ → Option X) (Q Q' : Ledger X → Type 0) (m : Machine) (l : Ledger X) (agrees : Agrees meant Q m l) (over : m.heap.marks.scanned ≡ m.heap.marks.copied) (now : Q' l) where
  new_past : Past X
  new_past = record { owner = agrees.own; marks = m.heap.marks; at = l }

  -- over states as variables: the registers moved, then the holds
  flipped : (o : Past X) → Q' o.at → (h₀ h₁ h₂ : Heap) (regs : List ℕ) (holds : List (Option ℕ)) → h₀.marks.prior ≤ h₀.marks.top
      → (a : Roots meant o l.row ℕ (Entry X) 0 (WordStands meant o l.row Never) agrees.own h₀ (length m.roots.registers) l.registers (record { after = h₁; value = regs }))
      → (b : Roots meant o l.row (Option ℕ) (Option (Entry X)) None (HoldStands meant o l.row Never) a.went.own' h₁ (length m.roots.holds) l.holds (record { after = h₂; value = holds }))
      → Agrees meant Q' (record { heap = h₂; roots = record { registers = regs; holds = holds }; terms = m.terms; opened = m.opened }) l
  flipped o q h₀ h₁ h₂ regs holds room a b =
      record {
        o = o;
        own = b.went.own';
        sound = b.went.sound;
        roomy = λ _. omega (arith, a.went.frame.prior, a.went.frame.top, b.went.frame.prior, b.went.frame.top);
        registers = λ r s. word_on meant o l.row Never a.went.own' h₁ h₂ b.went (get_or regs r 0) (l.registers r) (a.strong r (omega (arith, agrees.sixteen)));
        holds = λ p s. b.strong p (omega (arith, agrees.eight));
        sixteen = a.sized ∙ agrees.sixteen;
        eight = b.sized ∙ agrees.eight;
        past = q;
      }

  pub flip_agrees : Agrees meant Q' (flip m) l
  unfolding new_past
  flip_agrees =
      let o : Past X = new_past in
      let h : Heap = m.heap in
      let room : (trade h).marks.prior ≤ (trade h).marks.top = omega (arith, agrees.sound.inv.order.b_t, agrees.sound.inv.order.t_h) in
      let a = along_keeps meant o l.row 0 move (WordStands meant o l.row (Live o)) (WordStands meant o l.row Never) (word_on meant o l.row (Live o)) (word_on meant o l.row Never) (word_root meant o l.row)
      m.roots.registers l.registers agrees.own (trade h) (trade_sound meant agrees.o agrees.own h l agrees.sound over) room
      (λ r s. word_turns meant agrees.o agrees.own h l agrees.sound over (get_or m.roots.registers r 0) (l.registers r) (λ c e. of_register r c (omega (arith, agrees.sixteen)) e) (agrees.registers r (omega (arith, agrees.sixteen)))) in
      let b = along_keeps meant o l.row None move_hold (HoldStands meant o l.row (Live o)) (HoldStands meant o l.row Never) (hold_on meant o l.row (Live o)) (hold_on meant o l.row Never) (hold_root meant o l.row)
      m.roots.holds l.holds a.went.own' (along move (trade h) m.roots.registers).after a.went.sound (omega (arith, a.went.frame.prior, a.went.frame.top))
      (λ p s. hold_on meant o l.row (Live o) agrees.own (trade h) _ a.went (get_or m.roots.holds p None) (l.holds p)
      (hold_turns meant agrees.o agrees.own h l agrees.sound over (get_or m.roots.holds p None) (l.holds p) (λ c e. of_hold p c (omega (arith, agrees.eight)) e) (agrees.holds p (omega (arith, agrees.eight))))) in
      flipped o now (trade h) _ _ _ _ room a b
