-- Runs of calls, on a memory and on the ledger.
use Rattle.std.specs.Prelude.{ℕ, Bool, List, [], ◌∷◌, None, Ok, Err, Option, Result}
use Rattle.atom.specs.declared.faults.KindFault.{KindFault}
use Rattle.ledger.specs.Answers.{Told, granted, scanning, full, cons_says, fetch_says, replace_says, set_says, load_says, clear_says, look_says, same_says, hold_says, back_says, feed_says}
use Rattle.ledger.specs.Ledger.{Ledger, nil}
use Rattle.machine.specs.Calls.{cons_call, fetch_call, replace_call, set_call, load_call, clear_call, look_call, same_call}
use Rattle.machine.specs.Feed.{feed_call}
use Rattle.machine.specs.Holds.{Pass, KeptPass, hold_call, back_call}
use Rattle.machine.specs.Machine.{Machine}
use Rattle.machine.specs.declared.faults.MemoryFault.{MemoryFault}
use Rattle.machine.specs.declared.faults.MemoryFault.TheVariants as fault
use Rattle.machine.specs.declared.side.Side.TheVariants.{Head, Tail}
use Rattle.machine.specs.declared.sight.Sight.{Sight}

-- a call with its arguments, back's pass and feed's buffer among them
pub data Order (A : Type 0) : Type 0 where
  cons : ℕ → ℕ → ℕ → Order A
  car : ℕ → ℕ → Order A
  cdr : ℕ → ℕ → Order A
  rplaca : ℕ → ℕ → Order A
  rplacd : ℕ → ℕ → Order A
  put : ℕ → A → Order A
  load : ℕ → ℕ → Order A
  clear : ℕ → Order A
  look : ℕ → Order A
  same : ℕ → ℕ → Order A
  hold : ℕ → ℕ → Order A
  back : ℕ → Pass → Order A
  feed : ℕ → ℕ → List A → Order A

-- its answer: a result, a pass or a whole fault, and feed's buffer as left
pub data Reply (A : Type 0) : Type 0 where
  did : Result (Unit {0}) MemoryFault → Reply A
  showed : Result (Sight A) MemoryFault → Reply A
  judged : Result Bool MemoryFault → Reply A
  handed : Result Pass MemoryFault → Reply A
  took : Result (Unit {0}) KeptPass → Reply A
  wrote : List A → Result (ℕ × Bool) MemoryFault → Reply A

-- what a state and an order give: the next state, and the reply
pub record Turn (S A : Type 0) : Type 0 where
  pub after : S
  pub reply : Reply A

-- of a reply to a cons: whether it was refused for room, and with which number
abbrev pub told_by : Result (Unit {0}) MemoryFault → Told
told_by (Ok u) = granted
told_by (Err fault.Shut) = granted
told_by (Err fault.AlreadyOpen) = granted
told_by (Err fault.HalfSize) = granted
told_by (Err fault.Pace) = granted
told_by (Err fault.Limit) = granted
told_by (Err (fault.NoRegister r)) = granted
told_by (Err (fault.NotCell r)) = granted
told_by (Err (fault.Kind k)) = granted
told_by (Err fault.Scanning) = scanning
told_by (Err fault.Full) = full
told_by (Err (fault.NoHold p)) = granted
told_by (Err (fault.HoldTaken p)) = granted
told_by (Err (fault.NotHeld p)) = granted
told_by (Err (fault.NotAtom n)) = granted

-- of each cons, and of nothing else
abbrev pub told : {A : Type 0} → Order A → Reply A → Told
told (cons d a b) (did answer) = told_by answer
told (cons d a b) (showed answer) = granted
told (cons d a b) (judged answer) = granted
told (cons d a b) (handed answer) = granted
told (cons d a b) (took answer) = granted
told (cons d a b) (wrote buffer answer) = granted
told (car d r) reply = granted
told (cdr d r) reply = granted
told (rplaca r v) reply = granted
told (rplacd r v) reply = granted
told (put d a) reply = granted
told (load d r) reply = granted
told (clear d) reply = granted
told (look r) reply = granted
told (same a b) reply = granted
told (hold r p) reply = granted
told (back d pass) reply = granted
told (feed r p buffer) reply = granted

module _ {A : Type 0} (coded : A → Result ℕ KindFault) (meant : ℕ → Option A) where
  -- the memory, by the definitions of its calls
  abbrev pub turn : Machine → Order A → Turn Machine A
  turn m (cons d a b) = record { after = (cons_call m d a b).after; reply = did (cons_call m d a b).answer }
  turn m (car d r) = record { after = (fetch_call Head m d r).after; reply = did (fetch_call Head m d r).answer }
  turn m (cdr d r) = record { after = (fetch_call Tail m d r).after; reply = did (fetch_call Tail m d r).answer }
  turn m (rplaca r v) = record { after = (replace_call Head m r v).after; reply = did (replace_call Head m r v).answer }
  turn m (rplacd r v) = record { after = (replace_call Tail m r v).after; reply = did (replace_call Tail m r v).answer }
  turn m (put d a) = record { after = (set_call m d (coded a)).after; reply = did (set_call m d (coded a)).answer }
  turn m (load d r) = record { after = (load_call m d r).after; reply = did (load_call m d r).answer }
  turn m (clear d) = record { after = (clear_call m d).after; reply = did (clear_call m d).answer }
  turn m (look r) = record { after = m; reply = showed (look_call meant m r).answer }
  turn m (same a b) = record { after = m; reply = judged (same_call m a b).answer }
  turn m (hold r p) = record { after = (hold_call m r p).after; reply = handed (hold_call m r p).answer }
  turn m (back d t) = record { after = (back_call m d t).after; reply = took (back_call m d t).answer }
  turn m (feed r p buffer) = record { after = (feed_call meant m r p buffer).after; reply = wrote (feed_call meant m r p buffer).buffer (feed_call meant m r p buffer).answer }

  -- the ledger, told of each cons whether it found room
  abbrev pub page : Told → Ledger A → Order A → Turn (Ledger A) A
  page t l (cons d a b) = record { after = (cons_says t l d a b).after; reply = did (cons_says t l d a b).answer }
  page t l (car d r) = record { after = (fetch_says Head l d r).after; reply = did (fetch_says Head l d r).answer }
  page t l (cdr d r) = record { after = (fetch_says Tail l d r).after; reply = did (fetch_says Tail l d r).answer }
  page t l (rplaca r v) = record { after = (replace_says Head l r v).after; reply = did (replace_says Head l r v).answer }
  page t l (rplacd r v) = record { after = (replace_says Tail l r v).after; reply = did (replace_says Tail l r v).answer }
  page t l (put d a) = record { after = (set_says coded l d a).after; reply = did (set_says coded l d a).answer }
  page t l (load d r) = record { after = (load_says l d r).after; reply = did (load_says l d r).answer }
  page t l (clear d) = record { after = (clear_says l d).after; reply = did (clear_says l d).answer }
  page t l (look r) = record { after = l; reply = showed (look_says l r).answer }
  page t l (same a b) = record { after = l; reply = judged (same_says coded l a b).answer }
  page t l (hold r p) = record { after = (hold_says l r p).after; reply = handed (hold_says l r p).answer }
  page t l (back d t') = record { after = (back_says l d t').after; reply = took (back_says l d t').answer }
  page t l (feed r p buffer) = record { after = l; reply = wrote (feed_says l r p buffer).buffer (feed_says l r p buffer).answer }

  unfoldable pub replies : Machine → List (Order A) → List (Reply A)
  replies m [] = []
  replies m (o ∷ os) = (turn m o).reply ∷ replies (turn m o).after os

  unfoldable pub machine_after : Machine → List (Order A) → Machine
  machine_after m [] = m
  machine_after m (o ∷ os) = machine_after (turn m o).after os

  -- the ledger beside the memory, fed every order and told of each cons
  unfoldable pub ledger_replies : Ledger A → List (Order A) → List Told → List (Reply A)
  ledger_replies l [] ts = []
  ledger_replies l (o ∷ os) [] = []
  ledger_replies l (o ∷ os) (t ∷ ts) = (page t l o).reply ∷ ledger_replies (page t l o).after os ts

  unfoldable pub ledger_after : Ledger A → List (Order A) → List Told → Ledger A
  ledger_after l [] ts = l
  ledger_after l (o ∷ os) [] = l
  ledger_after l (o ∷ os) (t ∷ ts) = ledger_after (page t l o).after os ts

unfoldable pub tells : {A : Type 0} → List (Order A) → List (Reply A) → List Told
tells [] rs = []
tells (o ∷ os) [] = []
tells (o ∷ os) (r ∷ rs) = told o r ∷ tells os rs

-- the ledger at the opening: no cell used, registers nil, places free
abbrev pub blank : {A : Type 0} → ℕ → Ledger A
blank number = record { row = record { heads = λ _. nil; tails = λ _. nil; count = 0 }; registers = λ _. nil; holds = λ _. None; number = number }
