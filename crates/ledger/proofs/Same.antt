-- Equal words stand for equal entries, and the other way round.
use Rattle.std.proofs.Common.{◌≡◌, ℕ, length, Some, Option, sym, refl, ap, ◌∙◌, arith}
use Rattle.ledger.proofs.Roots.{WordStands}
use Rattle.ledger.proofs.Seen.{Seen, none, code, here, there, stray, Used, Never, Stands}
use Rattle.ledger.proofs.Sound.{seen, Past, Sound, halves}
use Rattle.ledger.proofs.Words.{from_here, from_none, from_code}
use Rattle.ledger.specs.Ledger.{Row, Entry, atom, cell}
use Rattle.machine.specs.Heap.{Heap}

module _ {X : Type 0} (meant : ℕ → Option X) (one : (a : X) (c d : ℕ) → meant c ≡ Some a → meant d ≡ Some a → c ≡ d)
    (o : Past X) (own : ℕ → ℕ) (h : Heap) (g : Row X) (sound : Sound meant o own h g) where
  -- one word, one entry
  one_entry : (s : Seen) (e e' : Entry X) → Stands meant (Used h.marks) Never own o.owner s e → Stands meant (Used h.marks) Never own o.owner s e' → e ≡ e'
  one_entry none e e' p q = p ∙ sym q
  one_entry (code n) e e' p q = let z : Some p.0 ≡ Some q.0 = sym p.1.1 ∙ q.1.1 in let k : p.0 ≡ q.0 = cc in p.1.0 ∙ (ap atom k ∙ sym q.1.0)
  one_entry (here i) e e' p q = p.1 ∙ sym q.1
  one_entry (there j) e e' p q = absurd p.0
  one_entry (stray n) e e' p q = absurd p

  pub same_entry : (w w' : ℕ) (e e' : Entry X) → WordStands meant o g Never own h w e → WordStands meant o g Never own h w' e' → w ≡ w' → e ≡ e'
  same_entry w w' e e' p q k = one_entry (seen h w) e e' p (rw k q)

  -- one entry, one word
  one_seen : (s s' : Seen) (e : Entry X) → Stands meant (Used h.marks) Never own o.owner s e → Stands meant (Used h.marks) Never own o.owner s' e → s ≡ s'
  one_seen none none e p q = refl
  one_seen none (code n) e p q = let z : ◌≡◌ {A = ℕ} 0 1 = cc (p, q.1.0) in absurd (omega arith)
  one_seen none (here i) e p q = let z : ◌≡◌ {A = ℕ} 0 1 = cc (p, q.1) in absurd (omega arith)
  one_seen none (there j) e p q = absurd q.0
  one_seen none (stray n) e p q = absurd q
  one_seen (code n) none e p q = let z : ◌≡◌ {A = ℕ} 0 1 = cc (q, p.1.0) in absurd (omega arith)
  one_seen (code n) (code k) e p q =
      let z : atom p.0 ≡ atom q.0 = sym p.1.0 ∙ q.1.0 in
      let a : p.0 ≡ q.0 = cc in
      ap code (one q.0 n k (p.1.1 ∙ ap Some a) q.1.1)
  one_seen (code n) (here i) e p q = let z : ◌≡◌ {A = ℕ} 0 1 = cc (p.1.0, q.1) in absurd (omega arith)
  one_seen (code n) (there j) e p q = absurd q.0
  one_seen (code n) (stray k) e p q = absurd q
  one_seen (here i) none e p q = let z : ◌≡◌ {A = ℕ} 0 1 = cc (q, p.1) in absurd (omega arith)
  one_seen (here i) (code n) e p q = let z : ◌≡◌ {A = ℕ} 0 1 = cc (q.1.0, p.1) in absurd (omega arith)
  one_seen (here i) (here k) e p q =
      let z : ◌≡◌ {A = Entry X} (cell (own i)) (cell (own k)) = sym p.1 ∙ q.1 in
      let s : own i ≡ own k = cc in
      ap here (sound.inv.own_one i k p.0 q.0 s)
  one_seen (here i) (there j) e p q = absurd q.0
  one_seen (here i) (stray n) e p q = absurd q
  one_seen (there j) s e p q = absurd p.0
  one_seen (stray n) s e p q = absurd p

  one_word : (s : Seen) (w w' : ℕ) (e : Entry X) → seen h w ≡ s → seen h w' ≡ s → Stands meant (Used h.marks) Never own o.owner s e → w ≡ w'
  one_word none w w' e p q st = from_none (length h.words) _ _ _ (halves h sound.big) w p ∙ sym (from_none (length h.words) _ _ _ (halves h sound.big) w' q)
  one_word (code n) w w' e p q st = (from_code (length h.words) _ _ _ (halves h sound.big) w n p).0 ∙ sym (from_code (length h.words) _ _ _ (halves h sound.big) w' n q).0
  one_word (here i) w w' e p q st = (from_here (length h.words) _ _ _ (halves h sound.big) w i p).0 ∙ sym (from_here (length h.words) _ _ _ (halves h sound.big) w' i q).0
  one_word (there j) w w' e p q st = absurd st.0
  one_word (stray n) w w' e p q st = absurd st

  pub same_word : (w w' : ℕ) (e e' : Entry X) → WordStands meant o g Never own h w e → WordStands meant o g Never own h w' e' → e ≡ e' → w ≡ w'
  same_word w w' e e' p q k =
      let q' : WordStands meant o g Never own h w' e = rw k q in
      let s : seen h w ≡ seen h w' = one_seen (seen h w) (seen h w') e p q' in
      one_word (seen h w) w w' e refl (sym s) p
