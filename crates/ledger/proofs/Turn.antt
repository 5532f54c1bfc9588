-- When the halves trade places with the scan over, the invariant holds anew: what was current and in reach is live.
use Rattle.std.proofs.Common.{◌≡◌, ℕ, ◌<◌, Option, sym, ◌∙◌, inl, inr, arith}
use Rattle.ledger.proofs.Invariant.{Inv}
use Rattle.ledger.proofs.Seen.{Seen, none, code, here, there, stray, View, Used, Clean, Never, Pair, Stands}
use Rattle.ledger.specs.Ledger.{Row, Entry, cell}
use Rattle.machine.specs.Heap.{Marks}
use Rattle.std.proofs.lemmas.Bool.{cases_lt}

-- a word as it is seen from the other half
abbrev pub swap : Seen → Seen
swap none = none
swap (code n) = code n
swap (here i) = there i
swap (there j) = here j
swap (stray n) = stray n

-- a cell that was used before the flip, with an owner within R
abbrev pub LiveFrom : Marks → (ℕ → Type 0) → (ℕ → ℕ) → ℕ → Type 0
LiveFrom m R own j = Used m j × R (own j)

pub record Turned (v v' : View) (m m' : Marks) : Type 0 where
  pub old_heads : (j : ℕ) → j < m.size → v'.old_head j ≡ swap (v.head j)
  pub old_tails : (j : ℕ) → j < m.size → v'.old_tail j ≡ swap (v.tail j)
  pub scanned : m'.scanned ≡ 0
  pub copied : m'.copied ≡ 0
  pub top : m'.top ≡ m.size
  pub size : m'.size ≡ m.size

module _ {X : Type 0} (meant : ℕ → Option X) where
  -- a clean word whose cell is within R stands, seen from the other half, for the same entry
  pub swap_stands : (m : Marks) (R : ℕ → Type 0) (own own' old : ℕ → ℕ) (s : Seen) (e : Entry X) → ((c : ℕ) → e ≡ cell c → R c) → Stands meant (Used m) Never own old s e → Stands meant Never (LiveFrom m R own) own' own (swap s) e
  swap_stands m R own own' old none e r h = h
  swap_stands m R own own' old (code n) e r h = h
  swap_stands m R own own' old (here i) e r h = ((h.0, r (own i) h.1), h.1)
  swap_stands m R own own' old (there j) e r h = absurd h.0
  swap_stands m R own own' old (stray n) e r h = h

  -- a clean word never refers to the current half once it is seen from the other one
  swap_apart : (m : Marks) (own old : ℕ → ℕ) (s : Seen) (e : Entry X) (i : ℕ) → Stands meant (Used m) Never own old s e → swap s ≡ here i → ⊥
  swap_apart m own old none e i h q = let z : ◌≡◌ {A = ℕ} 0 1 = cc in omega arith
  swap_apart m own old (code n) e i h q = let z : ◌≡◌ {A = ℕ} 0 1 = cc in omega arith
  swap_apart m own old (here k) e i h q = let z : ◌≡◌ {A = ℕ} 0 1 = cc in omega arith
  swap_apart m own old (there j) e i h q = h.0
  swap_apart m own old (stray n) e i h q = h

module _ {X : Type 0} (meant : ℕ → Option X) (Live R : ℕ → Type 0) (own old : ℕ → ℕ) (v v' : View) (m m' : Marks) (g : Row X)
    (inv : Inv meant Live own old v m g) (over : m.scanned ≡ m.copied) (turn : Turned v v' m m')
    (by_heads : (b c : ℕ) → R b → g.heads b ≡ cell c → R c) (by-tails : (b c : ℕ) → R b → g.tails b ≡ cell c → R c) where
  all_clean : (i : ℕ) → Used m i → Clean m i
  all_clean i u h = elim (cases_lt i m.top) [ inl below ↦ absurd (omega (arith, u.1 below)) | inr above ↦ above ]

  words : (j : ℕ) → Used m j → Pair meant (Used m) Never own old (v.head j) (v.tail j) (g.heads (own j)) (g.tails (own j))
  words j u = inv.clean j u (all_clean j u)

  unused : (i : ℕ) → Used m' i → ⊥
  unused i u = let h : i < m'.copied = u.1 (omega (arith, turn.top, turn.size)) in omega (arith, turn.copied)

  turn_waiting : (j : ℕ) → LiveFrom m R own j → ((i : ℕ) → v'.old_head j ≡ here i → ⊥) → Pair meant Never (LiveFrom m R own) own own (v'.old_head j) (v'.old_tail j) (g.heads (own j)) (g.tails (own j))
  turn_waiting j l _ =
      rw (turn.old_heads j l.0.0, turn.old_tails j l.0.0)
      (record {
        of_head = swap_stands meant m R own own old (v.head j) _ (λ c e. by_heads (own j) c l.1 e) (words j l.0).of_head;
        of_tail = swap_stands meant m R own own old (v.tail j) _ (λ c e. by-tails (own j) c l.1 e) (words j l.0).of_tail;
      })

  pub turn_keeps : Inv meant (LiveFrom m R own) own own v' m' g
  turn_keeps =
      record {
        order = record { s_b = omega (arith, turn.scanned, turn.copied); b_t = omega (arith, turn.copied); t_h = omega (arith, turn.top, turn.size) };
        cells = λ i u. absurd (unused i u);
        clean = λ i u _. absurd (unused i u);
        forwarded = λ i j l e. absurd (swap_apart meant m own old (v.head j) _ i (words j l.0).of_head (sym (turn.old_heads j l.0.0) ∙ e));
        waiting = turn_waiting;
        own_in = λ i u. absurd (unused i u);
        old_in = λ j l. inv.own_in j l.0;
        own_one = λ i k u w e. absurd (unused i u);
        old_one = λ j k l n e. inv.own_one j k l.0 n.0 e;
        meet = λ i j u l e. absurd (unused i u);
        came = λ i h. absurd (omega (arith, turn.copied));
      }
