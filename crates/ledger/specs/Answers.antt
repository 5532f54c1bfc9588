-- What the ledger answers to each call, and what it has then: each call as the memory's, with cells that never move.
use Rattle.std.specs.Prelude.{ℕ, zero, suc, ◌+◌, Bool, true, false, cond, List, [], ◌∷◌, length, Some, None, Ok, Err, Option, Result, ◌==◌, nat_lt, slice_set}
use Rattle.atom.specs.declared.faults.KindFault.{KindFault}
use Rattle.ledger.specs.Ledger.{Ledger, Row, Entry, nil, atom, cell, entry, rewritten, booked, with_register, with_hold, with_row}
use Rattle.machine.specs.Calls.{known}
use Rattle.machine.specs.Holds.{Pass, KeptPass}
use Rattle.machine.specs.declared.faults.MemoryFault.{MemoryFault}
use Rattle.machine.specs.declared.faults.MemoryFault.TheVariants.{NotCell, Kind, Scanning, Full, NoHold, HoldTaken, NotHeld, NotAtom}
use Rattle.machine.specs.declared.side.Side.{Side}
use Rattle.machine.specs.declared.sight.Sight.TheVariants as sight
use Rattle.machine.specs.declared.sight.Sight.{Sight}

pub record Said (X R : Type 0) : Type 0 where
  pub after : Ledger X
  pub answer : Result R MemoryFault

-- what the ledger is told of a cons
pub data Told : Type 0 where
  granted : Told
  scanning : Told
  full : Told

-- atoms are the same if their codes are
abbrev pub same_codes : Result ℕ KindFault → Result ℕ KindFault → Bool
same_codes (Ok c) (Ok d) = c == d
same_codes (Ok c) (Err f) = false
same_codes (Err f) (Ok d) = false
same_codes (Err f) (Err g) = false

module _ {X : Type 0} where
  abbrev pub settled : Ledger X → Said X (Unit {0})
  settled l = record { after = l; answer = Ok tt }

  abbrev pub denied : {R : Type 0} → Ledger X → MemoryFault → Said X R
  denied l fault = record { after = l; answer = Err fault }

  -- a refusal changes nothing
  abbrev pub unless_denied : {R : Type 0} → Result (Unit {0}) MemoryFault → Ledger X → Said X R → Said X R
  unless_denied (Err fault) l said = denied l fault
  unless_denied (Ok u) l said = said

  -- whether there is room, the ledger is told
  abbrev pub booking : Told → Ledger X → ℕ → ℕ → ℕ → Said X (Unit {0})
  booking granted l d a b = settled (booked l d a b)
  booking scanning l d a b = denied l Scanning
  booking full l d a b = denied l Full

  abbrev pub cons_says : Told → Ledger X → ℕ → ℕ → ℕ → Said X (Unit {0})
  cons_says told l d a b = unless_denied (known (d ∷ a ∷ b ∷ [])) l (booking told l d a b)

  -- a call that needs a cell in r
  abbrev pub needing : Ledger X → ℕ → Entry X → (ℕ → Said X (Unit {0})) → Said X (Unit {0})
  needing l r nil go = denied l (NotCell r)
  needing l r (atom a) go = denied l (NotCell r)
  needing l r (cell c) go = go c

  abbrev pub fetch_says : Side → Ledger X → ℕ → ℕ → Said X (Unit {0})
  fetch_says side l d r =
      unless_denied (known (d ∷ r ∷ [])) l (needing l r (l.registers r) (λ c. settled (with_register l d (entry side l.row c))))

  abbrev pub replace_says : Side → Ledger X → ℕ → ℕ → Said X (Unit {0})
  replace_says side l r v =
      unless_denied (known (r ∷ v ∷ [])) l
      (needing l r (l.registers r) (λ c. settled (with_row l (rewritten side l.row c (l.registers v)))))

  -- an atom outside its kind's ranges is refused by the kind
  abbrev pub setting : Ledger X → ℕ → X → Result ℕ KindFault → Said X (Unit {0})
  setting l d a (Ok code) = settled (with_register l d (atom a))
  setting l d a (Err fault) = denied l (Kind fault)

  abbrev pub set_says : (X → Result ℕ KindFault) → Ledger X → ℕ → X → Said X (Unit {0})
  set_says coded l d a = unless_denied (known (d ∷ [])) l (setting l d a (coded a))

  abbrev pub load_says : Ledger X → ℕ → ℕ → Said X (Unit {0})
  load_says l d r = unless_denied (known (d ∷ r ∷ [])) l (settled (with_register l d (l.registers r)))

  abbrev pub clear_says : Ledger X → ℕ → Said X (Unit {0})
  clear_says l d = unless_denied (known (d ∷ [])) l (settled (with_register l d nil))

  abbrev pub sighted : Entry X → Sight X
  sighted nil = sight.Nil
  sighted (atom a) = sight.Atom a
  sighted (cell c) = sight.Cell

  abbrev pub look_says : Ledger X → ℕ → Said X (Sight X)
  look_says l r = unless_denied (known (r ∷ [])) l (record { after = l; answer = Ok (sighted (l.registers r)) })

  abbrev pub same_entries : (X → Result ℕ KindFault) → Entry X → Entry X → Bool
  same_entries coded nil nil = true
  same_entries coded nil (atom b) = false
  same_entries coded nil (cell d) = false
  same_entries coded (atom a) nil = false
  same_entries coded (atom a) (atom b) = same_codes (coded a) (coded b)
  same_entries coded (atom a) (cell d) = false
  same_entries coded (cell c) nil = false
  same_entries coded (cell c) (atom b) = false
  same_entries coded (cell c) (cell d) = c == d

  abbrev pub same_says : (X → Result ℕ KindFault) → Ledger X → ℕ → ℕ → Said X Bool
  same_says coded l a b = unless_denied (known (a ∷ b ∷ [])) l (record { after = l; answer = Ok (same_entries coded (l.registers a) (l.registers b)) })

  -- Hold and back: a taken place may have nil and is still taken.
  abbrev pub vacant_for : Option (Entry X) → ℕ → Result (Unit {0}) MemoryFault
  vacant_for None p = Ok tt
  vacant_for (Some e) p = Err (HoldTaken p)

  abbrev pub may_hold_at : Ledger X → ℕ → Result (Unit {0}) MemoryFault
  may_hold_at l p = cond (nat_lt p 8) (vacant_for (l.holds p) p) (Err (NoHold p))

  abbrev pub hold_says : Ledger X → ℕ → ℕ → Said X Pass
  hold_says l r p =
      unless_denied (known (r ∷ [])) l
      (unless_denied (may_hold_at l p) l
      (record { after = with_hold l p (Some (l.registers r)); answer = Ok (record { number = l.number; place = p }) }))

-- what the ledger answers to back: every refusal hands the pass back
pub record BackSaid (X : Type 0) : Type 0 where
  pub after : Ledger X
  pub answer : Result (Unit {0}) KeptPass

-- what it answers to feed: the buffer as left, and how many atoms with whether the list ended; a feed leaves the ledger as it was
pub record FeedSaid (X : Type 0) : Type 0 where
  pub buffer : List X
  pub answer : Result (ℕ × Bool) MemoryFault

module _ {X : Type 0} where
  abbrev pub kept_said : Ledger X → MemoryFault → Pass → BackSaid X
  kept_said l fault pass = record { after = l; answer = Err (record { fault = fault; pass = pass }) }

  abbrev pub giving : Option (Entry X) → Ledger X → ℕ → Pass → BackSaid X
  giving None l d pass = kept_said l (NotHeld pass.place) pass
  giving (Some e) l d pass = record { after = with_register (with_hold l pass.place None) d e; answer = Ok tt }

  -- places above 7 are never taken
  abbrev pub held_with : Ledger X → Pass → Option (Entry X)
  held_with l pass = cond (pass.number == l.number) (cond (nat_lt pass.place 8) (l.holds pass.place) None) None

  abbrev pub back_unless_denied : Result (Unit {0}) MemoryFault → Ledger X → ℕ → Pass → BackSaid X
  back_unless_denied (Err fault) l d pass = kept_said l fault pass
  back_unless_denied (Ok u) l d pass = giving (held_with l pass) l d pass

  abbrev pub back_says : Ledger X → ℕ → Pass → BackSaid X
  back_says l d pass = back_unless_denied (known (d ∷ [])) l d pass

  abbrev pub fed_said : List X → Result (ℕ × Bool) MemoryFault → FeedSaid X
  fed_said buffer answer = record { buffer = buffer; answer = answer }

  abbrev pub ends : Entry X → Bool
  ends nil = true
  ends (atom a) = false
  ends (cell c) = false

  abbrev pub at_cell : Entry X → FeedSaid X → FeedSaid X → (ℕ → FeedSaid X) → FeedSaid X
  at_cell nil over bad go = over
  at_cell (atom a) over bad go = bad
  at_cell (cell c) over bad go = go c

  abbrev pub at_atom : Entry X → FeedSaid X → (X → FeedSaid X) → FeedSaid X
  at_atom nil bad go = bad
  at_atom (atom a) bad go = go a
  at_atom (cell c) bad go = bad

  -- The walk along the tails from an entry, with n atoms written and room for `left` more.
  unfoldable pub walked : Row X → ℕ → ℕ → Entry X → List X → FeedSaid X
  walked g zero n e buffer = fed_said buffer (Ok (n, ends e))
  walked g (suc left) n e buffer =
      at_cell e (fed_said buffer (Ok (n, true))) (fed_said buffer (Err (NotCell n)))
      (λ c. at_atom (g.heads c) (fed_said buffer (Err (NotAtom n)))
      (λ a. walked g left (n + 1) (g.tails c) (slice_set buffer n a)))

  abbrev pub feed_unless_denied : Result (Unit {0}) MemoryFault → List X → FeedSaid X → FeedSaid X
  feed_unless_denied (Err fault) buffer go = fed_said buffer (Err fault)
  feed_unless_denied (Ok u) buffer go = go

  abbrev pub feed_says : Ledger X → ℕ → ℕ → List X → FeedSaid X
  feed_says l r p buffer =
      feed_unless_denied (known (r ∷ [])) buffer
      (feed_unless_denied (may_hold_at l p) buffer (walked l.row (length buffer) 0 (l.registers r) buffer))
