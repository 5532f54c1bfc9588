-- With at most `limit` cells in reach at every cons, none is refused for room.
use Rattle.std.proofs.Common.{◌≡◌, ℕ, ◌+◌, ◌-◌, ◌*◌, ◌<◌, ◌≤◌, Bool, true, false, cond, length, get_or, Ok, Option, sym, refl, ap, ◌∙◌, inl, inr, arith}
use Rattle.ledger.proofs.Collect.{scan_agrees, due_over}
use Rattle.ledger.proofs.Flip.{Agrees, flip_agrees}
use Rattle.ledger.proofs.Invariant.{Ordered}
use Rattle.ledger.proofs.Paces.{Progress, progress, Held, flip_held}
use Rattle.ledger.proofs.Pigeons.{pigeons, choose}
use Rattle.ledger.proofs.Seen.{Used}
use Rattle.ledger.proofs.Sound.{Quiet}
use Rattle.ledger.proofs.Steps.{copied_prior}
use Rattle.ledger.specs.Ledger.{Ledger, Few}
use Rattle.machine.specs.Heap.{Heap, Marks, used, scan, trade}
use Rattle.machine.specs.Machine.{Machine, flip, flip_due, flip_line, collected, with_heap, room, ceiling}
use Rattle.std.proofs.lemmas.Bool.{cases_eq}
use Rattle.std.proofs.lemmas.Bool.Decides.{nat_tests}
use native.Mathlib.Nat.{lt_of_mul-lt-mul_left}

-- Copied cells were in reach at the last flip.
pub few_copied : {A : Type 0} (meant : ℕ → Option A) (n : ℕ) (m : Machine) (l : Ledger A) → Agrees meant (Few n) m l → m.heap.marks.copied ≤ n
few_copied meant n m l agrees =
    let inv = agrees.sound.inv in
    let few = agrees.past in
    let c = choose (λ i k. (k < length few.all) × (get_or few.all k 0 ≡ agrees.own i)) m.heap.marks.copied
    (λ i h. let j = inv.came i h in let k = few.has (agrees.o.owner j.0) j.1.0.1 in (k.0, (k.1.0, k.1.1 ∙ sym j.1.1))) in
    let used-i : (i : ℕ) → i < m.heap.marks.copied → Used m.heap.marks i = λ i h. (omega (arith, inv.order.b_t, inv.order.t_h), λ _. h) in
    let most = pigeons m.heap.marks.copied (length few.all) c.0 (λ i h. (c.1 i h).0)
    (λ i k hi hk e. inv.own_one i k (used-i i hi) (used-i k hk) (sym (c.1 i hi).1 ∙ (ap (λ x. get_or few.all x 0) e ∙ (c.1 k hk).1))) in
    omega (arith, most, few.short)

-- Room is kept in reserve: c cells at a flip, and as many allocated as scanned cells pay for.
pub record Fit (k c : ℕ) (m : Marks) : Type 0 where
  pub reserve : m.prior + c ≤ m.size
  pub paid : m.scanned < m.copied → k * (m.size - m.top) ≤ m.scanned
  pub calm : m.scanned ≡ m.copied → m.copied + (m.size - m.top) + c ≤ m.size

pub fit_quiet : (k c : ℕ) (m m' : Marks) → Quiet m m' → Fit k c m → Fit k c m'
fit_quiet k c m m' q f =
    record {
      reserve = omega (arith, f.reserve, q.prior, q.size);
      paid = λ b. let still : m.scanned < m.copied = elim q.either [ inl same ↦ omega (arith, q.scanned) | inr busy ↦ busy.0 ] in rw (q.scanned, q.size, q.top) (f.paid still);
      calm = λ e. elim q.either [
        | inl same ↦ let e₀ : m.scanned ≡ m.copied = omega (arith, q.scanned) in omega (arith, f.calm e₀, q.top, q.size)
        | inr busy ↦ absurd (omega (arith, busy.0, busy.1, q.scanned))
      ];
    }

abbrev pub lowered : Marks → Marks
lowered m = record { scanned = m.scanned; copied = m.copied; top = m.top - 1; prior = m.prior; size = m.size }

pub record Granted (k c : ℕ) (m : Marks) : Type 0 where
  pub granted : room m ≡ Ok tt
  pub free : m.copied < m.top
  pub fit : Fit k c (lowered m)

-- a scan that had cells to scan, or that follows a flip
module _ (k c limit : ℕ) (m m' : Marks) (some : 0 < c) (covers : limit ≤ k * c) (roomy : limit + (c + c) ≤ m.size)
    (order : Ordered m) (order' : Ordered m') (top : m'.top ≡ m.top) (prior : m'.prior ≡ m.prior) (size : m'.size ≡ m.size)
    (reserve : m.prior + c ≤ m.size) (paid : k * (m.size - m.top) ≤ m.scanned) (short : m.scanned < k * c) (few : m'.copied ≤ limit) (tight : m'.copied ≤ m'.prior) where
  gap : m.size - m.top < c
  gap = lt_of_mul-lt-mul_left k {m = m.size - m.top} {n = c} (omega (arith, paid, short))

  scan_finished : m'.scanned ≡ m'.copied → Granted k c m'
  scan_finished over =
      let free : m'.copied < m'.top = omega (arith, gap, order.t_h, few, roomy, top) in
      record {
        granted = grind (arith, nat_tests);
        free = free;
        fit = record {
          reserve = omega (arith, reserve, prior, size);
          paid = λ b. absurd (omega arith);
          calm = λ _. omega (arith, gap, few, roomy, top, size, order.t_h, order'.t_h);
        };
      }

  scan_unfinished : m'.scanned ≡ m.scanned + k → (m'.scanned ≡ m'.copied → ⊥) → Granted k c m'
  scan_unfinished on ne =
      let busy : m'.scanned < m'.copied = omega (arith, order'.s_b) in
      let more : k * (m.size - m.top + 1) ≤ m'.scanned = omega (arith, paid, on) in
      let less : m.size - m.top + 1 < c = lt_of_mul-lt-mul_left k {m = m.size - m.top + 1} {n = c} (omega (arith, more, busy, few, covers)) in
      let room-left : m'.prior < m'.top = omega (arith, less, reserve, prior, top, order.t_h) in
      let gap' : m'.size - (m'.top - 1) ≡ m.size - m.top + 1 = omega (arith, room-left, top, size, order.t_h) in
      record {
        granted = grind (arith, nat_tests);
        free = omega (arith, tight, room-left);
        fit = record {
          reserve = omega (arith, reserve, prior, size);
          paid = λ _. rw gap' more;
          calm = λ e. absurd (ne e);
        };
      }

-- a scan that is over, with no flip due: nothing moves
calm_granted : (k c : ℕ) (m : Marks) → Ordered m → m.scanned ≡ m.copied → m.copied + (m.size - m.top) + c < m.size → m.prior + c ≤ m.size → Granted k c m
calm_granted k c m order over below reserve =
    let free : m.copied < m.top = omega (arith, order.t_h) in
    record {
      granted = grind (arith, nat_tests);
      free = free;
      fit = record { reserve = reserve; paid = λ b. absurd (omega arith); calm = λ _. omega (arith, order.t_h) };
    }

-- The terms of an opening: the limit is covered by c rounds of the pace, and twice c is in reserve.
pub record Paced (k c limit size : ℕ) : Type 0 where
  pub least : 0 < limit
  pub some : 0 < c
  pub covers : limit ≤ k * c
  pub roomy : limit + (c + c) ≤ size

-- a scan from h to h' leaves room
scan_granted : (k c limit : ℕ) (h h' : Heap) → Paced k c limit h.marks.size → Progress k h h' → Ordered h.marks → Ordered h'.marks → h.marks.prior + c ≤ h.marks.size → k * (h.marks.size - h.marks.top) ≤ h.marks.scanned → h.marks.scanned < k * c → h'.marks.copied ≤ limit → h'.marks.copied ≤ h'.marks.prior → Granted k c h'.marks
scan_granted k c limit h h' paced p order order' reserve paid short few tight =
    elim (cases_eq h'.marks.scanned h'.marks.copied) [
      | inl over ↦ scan_finished k c limit h.marks h'.marks paced.some paced.covers paced.roomy order order' p.top p.prior p.size reserve paid short few tight over
      | inr ne ↦ elim p.far [
        | inl over ↦ absurd (ne over)
        | inr on ↦ scan_unfinished k c limit h.marks h'.marks paced.some paced.covers paced.roomy order order' p.top p.prior p.size reserve paid short few tight on ne
      ]
    ]

module _ {A : Type 0} (meant : ℕ → Option A) (k c limit : ℕ) where
  -- over states as variables: the heap before the scan, and the machine after it
  pub scan_grants : (h : Heap) (m' : Machine) (l : Ledger A) → Agrees meant (Few limit) m' l → Ordered h.marks → Paced k c limit h.marks.size → Progress k h m'.heap → h.marks.prior + c ≤ h.marks.size → k * (h.marks.size - h.marks.top) ≤ h.marks.scanned → h.marks.scanned < k * c → Granted k c m'.heap.marks
  scan_grants h m' l agrees order paced p reserve paid short =
      scan_granted k c limit h m'.heap paced p order agrees.sound.inv.order reserve paid short (few_copied meant limit m' l agrees) (copied_prior meant (Few limit) m' l agrees)

  -- the heap after a flip
  pub flip_grants : (h₀ h : Heap) (m' : Machine) (l : Ledger A) → Agrees meant (Few limit) m' l → Ordered h.marks → Held (trade h₀) h → Paced k c limit h₀.marks.size → Fit k c h₀.marks → h₀.marks.scanned ≡ h₀.marks.copied → Progress k h m'.heap → Granted k c m'.heap.marks
  flip_grants h₀ h m' l agrees order held paced fit over p =
      let nothing : h.marks.size - h.marks.top ≡ 0 = omega (arith, held.top, held.size) in
      let calm = fit.calm over in
      scan_grants h m' l agrees order (rw held.size paced) p
      (omega (arith, calm, held.prior, held.size))
      (rw nothing (omega arith))
      (omega (arith, held.scanned, paced.least, paced.covers))

pub flip_due_line : (m : Machine) → flip_due m ≡ false → m.heap.marks.scanned ≡ m.heap.marks.copied → used m.heap.marks < flip_line m
flip_due_line m e over = grind (arith, nat_tests)

module _ {A : Type 0} (meant : ℕ → Option A) (m : Machine) (l : Ledger A) (agrees : Agrees meant (Few m.terms.limit) m l) (few : Few m.terms.limit l)
    (paced : Paced m.terms.pace (ceiling m.terms.limit m.terms.pace) m.terms.limit m.heap.marks.size) (fit : Fit m.terms.pace (ceiling m.terms.limit m.terms.pace) m.heap.marks) where
  stay_grants : flip_due m ≡ false → Granted m.terms.pace (ceiling m.terms.limit m.terms.pace) (scan m.terms.pace m.heap).marks
  stay_grants undue =
      let p = progress m.terms.pace m.heap agrees.sound.inv.order.s_b in
      let swept = scan_agrees meant (Few m.terms.limit) m.terms.pace m l agrees in
      elim (cases_eq m.heap.marks.scanned m.heap.marks.copied) [
        | inl over ↦
            let below = flip_due_line m undue over in
            rw (p.over over) (calm_granted m.terms.pace (ceiling m.terms.limit m.terms.pace) m.heap.marks agrees.sound.inv.order over (omega (arith, below)) fit.reserve)
        | inr ne ↦
            let busy : m.heap.marks.scanned < m.heap.marks.copied = omega (arith, agrees.sound.inv.order.s_b) in
            scan_grants meant m.terms.pace (ceiling m.terms.limit m.terms.pace) m.terms.limit m.heap (with_heap m (scan m.terms.pace m.heap)) l swept agrees.sound.inv.order paced p fit.reserve (fit.paid busy)
            (omega (arith, busy, few_copied meant m.terms.limit m l agrees, paced.covers))
      ]

  turn_grants : flip_due m ≡ true → Granted m.terms.pace (ceiling m.terms.limit m.terms.pace) (scan m.terms.pace (flip m).heap).marks
  turn_grants due =
      let over = due_over m due in
      let turned = flip_agrees meant (Few m.terms.limit) (Few m.terms.limit) m l agrees over few in
      flip_grants meant m.terms.pace (ceiling m.terms.limit m.terms.pace) m.terms.limit m.heap (flip m).heap (with_heap (flip m) (scan m.terms.pace (flip m).heap)) l
      (scan_agrees meant (Few m.terms.limit) m.terms.pace (flip m) l turned) turned.sound.inv.order (flip_held m) paced fit over (progress m.terms.pace (flip m).heap turned.sound.inv.order.s_b)

  grants_by : (due : Bool) → flip_due m ≡ due → Granted m.terms.pace (ceiling m.terms.limit m.terms.pace) (scan m.terms.pace (cond due (flip m) m).heap).marks
  grants_by true e = turn_grants e
  grants_by false e = stay_grants e

  -- after the collector's share a cons finds room, and keeps the reserve
  pub collected_granted : Granted m.terms.pace (ceiling m.terms.limit m.terms.pace) (collected m).heap.marks
  collected_granted = grants_by (flip_due m) refl
