-- What a root shows is what the ledger shows, so a refused call, which leaves the ledger as it was, leaves it.
use Rattle.std.proofs.Common.{◌≡◌, ℕ, true, false, List, [], ◌∷◌, is_some, Some, None, Ok, Err, Option, Result, sym, refl, ap, ◌∙◌, arith}
use Rattle.atom.specs.declared.faults.KindFault.{KindFault}
use Rattle.ledger.proofs.Flip.{Agrees}
use Rattle.ledger.proofs.Opening.{roots_taken, root_stands}
use Rattle.ledger.proofs.Roots.{WordStands}
use Rattle.ledger.proofs.Running.{Lawful, Beside, pages}
use Rattle.ledger.proofs.Seen.{Never}
use Rattle.ledger.proofs.Steps.{register_agrees}
use Rattle.ledger.proofs.Turns.{fetch_matches, look_matches}
use Rattle.ledger.specs.Answers.{Told, Said, unless_denied, needing, fetch_says, look_says, booking, granted, scanning, full, setting, giving, held_with, back_unless_denied, may_hold_at}
use Rattle.ledger.specs.Law.{Root, word_of, entry_of, following, walk_shows, word_shows, root_shows, failed, refusal, ConsCalled}
use Rattle.ledger.specs.Ledger as ledger
use Rattle.ledger.specs.Ledger.{Ledger, Row, Entry, nil, atom, cell, entry}
use Rattle.ledger.specs.Runs.{Order, cons, car, cdr, rplaca, rplacd, put, load, clear, look, same, hold, back, feed, told, turn, page}
use Rattle.machine.specs.Calls.{known, fetch_call}
use Rattle.machine.specs.Holds.{Pass}
use Rattle.machine.specs.Machine as machine
use Rattle.machine.specs.Machine.{Machine}
use Rattle.machine.specs.declared.faults.MemoryFault.{MemoryFault}
use Rattle.machine.specs.declared.side.Side.{Side}
use Rattle.machine.specs.declared.sight.Sight.{Sight}

-- the same walk on the ledger
ledger_walk : {A : Type 0} → Ledger A → List Side → Result (Sight A) MemoryFault
ledger_walk l [] = (look_says l 0).answer
ledger_walk l (side ∷ path) = following (fetch_says side l 0 0).answer (ledger_walk (fetch_says side l 0 0).after path)

abbrev entry_shows : {A : Type 0} → Ledger A → List Side → Option (Entry A) → Option (Result (Sight A) MemoryFault)
entry_shows l path None = None
entry_shows l path (Some e) = Some (ledger_walk (ledger.with_register l 0 e) path)

module _ {A : Type 0} (meant : ℕ → Option A) (Q : Ledger A → Type 0) where
  following_same : {R : Type 0} (a a' : Result (Unit {0}) MemoryFault) (x x' : Result R MemoryFault) → a ≡ a' → x ≡ x' → following a x ≡ following a' x'
  following_same a a' x x' p q = rw (p, q)

  walks_alike : (path : List Side) (m : Machine) (l : Ledger A) → Agrees meant Q m l → m.opened ≡ true → walk_shows meant m path ≡ ledger_walk l path
  unfolding walk_shows ledger_walk
  walks_alike [] m l agrees o = (look_matches meant Q m l agrees o 0).answers
  walks_alike (side ∷ path) m l agrees o =
      let c = fetch_matches meant Q m l agrees o side 0 0 in
      following_same _ _ _ _ c.answers (walks_alike path (fetch_call side m 0 0).after (fetch_says side l 0 0).after c.agrees (c.opened ∙ o))

  shows_by : (m : Machine) (l : Ledger A) (agrees : Agrees meant Q m l) → m.opened ≡ true → (path : List Side) (w : Option ℕ) (e : Option (Entry A)) → is_some w ≡ is_some e → ((x : ℕ) (y : Entry A) → w ≡ Some x → e ≡ Some y → WordStands meant agrees.o l.row Never agrees.own m.heap x y) → word_shows meant m path w ≡ entry_shows l path e
  shows_by m l agrees o path None None t st = refl
  shows_by m l agrees o path None (Some e) t st = let z : ◌≡◌ {A = ℕ} 0 1 = cc in absurd (omega arith)
  shows_by m l agrees o path (Some w) None t st = let z : ◌≡◌ {A = ℕ} 0 1 = cc in absurd (omega arith)
  shows_by m l agrees o path (Some w) (Some e) t st = ap Some (walks_alike path (machine.with_register m 0 w) (ledger.with_register l 0 e) (register_agrees meant Q m l 0 w e agrees (omega arith) (st w e refl refl)) o)

  root_shows_lem : (m : Machine) (l : Ledger A) → Agrees meant Q m l → m.opened ≡ true → (p : Root) (path : List Side) → root_shows meant m p path ≡ entry_shows l path (entry_of l p)
  root_shows_lem m l agrees o p path = shows_by m l agrees o path (word_of m p) (entry_of l p) (roots_taken meant Q m l agrees p) (λ x y a b. root_stands meant Q m l agrees p x y a b)

never : {P : Type 0} → false ≡ true → P
never e = let z : ◌≡◌ {A = ℕ} 0 1 = cc in absurd (omega arith)

-- A refused call changes nothing of the ledger.
module _ {A : Type 0} where
  said_leaves : {R : Type 0} (l : Ledger A) (k : Result (Unit {0}) MemoryFault) (said : Said A R) → (failed said.answer ≡ true → said.after ≡ l) → failed (unless_denied k l said).answer ≡ true → (unless_denied k l said).after ≡ l
  said_leaves l (Err f) said go r = refl
  said_leaves l (Ok u) said go r = go r

  booking_leaves : (t : Told) (l : Ledger A) (d a b : ℕ) → failed (booking t l d a b).answer ≡ true → (booking t l d a b).after ≡ l
  booking_leaves granted l d a b r = let z : ◌≡◌ {A = ℕ} 0 1 = cc in absurd (omega arith)
  booking_leaves scanning l d a b r = refl
  booking_leaves full l d a b r = refl

  needing_leaves : (l : Ledger A) (r : ℕ) (e : Entry A) (go : ℕ → Said A (Unit {0})) → ((c : ℕ) → failed (go c).answer ≡ true → (go c).after ≡ l) → failed (needing l r e go).answer ≡ true → (needing l r e go).after ≡ l
  needing_leaves l r nil go on q = refl
  needing_leaves l r (atom a) go on q = refl
  needing_leaves l r (cell c) go on q = on c q

  setting_leaves : (l : Ledger A) (d : ℕ) (a : A) (k : Result ℕ KindFault) → failed (setting l d a k).answer ≡ true → (setting l d a k).after ≡ l
  setting_leaves l d a (Ok c) r = let z : ◌≡◌ {A = ℕ} 0 1 = cc in absurd (omega arith)
  setting_leaves l d a (Err f) r = refl

  giving_leaves : (l : Ledger A) (d : ℕ) (pass : Pass) (e : Option (Entry A)) → failed (giving e l d pass).answer ≡ true → (giving e l d pass).after ≡ l
  giving_leaves l d pass None r = refl
  giving_leaves l d pass (Some e) r = never r

  back_leaves : (l : Ledger A) (d : ℕ) (pass : Pass) (k : Result (Unit {0}) MemoryFault) → failed (back_unless_denied k l d pass).answer ≡ true → (back_unless_denied k l d pass).after ≡ l
  back_leaves l d pass (Err f) r = refl
  back_leaves l d pass (Ok u) r = giving_leaves l d pass (held_with l pass) r

  page_leaves : (coded : A → Result ℕ KindFault) (meant : ℕ → Option A) (t : Told) (l : Ledger A) (o : Order A) → refusal (page coded meant t l o).reply ≡ true → (page coded meant t l o).after ≡ l
  page_leaves coded meant t l (cons d a b) r = said_leaves l (known (d ∷ a ∷ b ∷ [])) _ (booking_leaves t l d a b) r
  page_leaves coded meant t l (car d r') r = said_leaves l (known (d ∷ r' ∷ [])) _ (needing_leaves l r' (l.registers r') _ (λ c q. never q)) r
  page_leaves coded meant t l (cdr d r') r = said_leaves l (known (d ∷ r' ∷ [])) _ (needing_leaves l r' (l.registers r') _ (λ c q. never q)) r
  page_leaves coded meant t l (rplaca r' v) r = said_leaves l (known (r' ∷ v ∷ [])) _ (needing_leaves l r' (l.registers r') _ (λ c q. never q)) r
  page_leaves coded meant t l (rplacd r' v) r = said_leaves l (known (r' ∷ v ∷ [])) _ (needing_leaves l r' (l.registers r') _ (λ c q. never q)) r
  page_leaves coded meant t l (put d a) r = said_leaves l (known (d ∷ [])) _ (setting_leaves l d a (coded a)) r
  page_leaves coded meant t l (load d r') r = said_leaves l (known (d ∷ r' ∷ [])) _ (λ q. never q) r
  page_leaves coded meant t l (clear d) r = said_leaves l (known (d ∷ [])) _ (λ q. never q) r
  page_leaves coded meant t l (look r') r = refl
  page_leaves coded meant t l (same a b) r = refl
  page_leaves coded meant t l (hold r' p) r = said_leaves l (known (r' ∷ [])) _ (said_leaves l (may_hold_at l p) _ (λ q. never q)) r
  page_leaves coded meant t l (back d pass) r = back_leaves l d pass (known (d ∷ [])) r
  page_leaves coded meant t l (feed r' p buffer) r = refl

module _ {A : Type 0} (coded : A → Result ℕ KindFault) (meant : ℕ → Option A) (lawful : Lawful coded meant) where
  -- nothing is asked of the ledger
  abbrev pub Anything : Ledger A → Type 0
  Anything l = Unit {0}

  pub any_cons : (l : Ledger A) (o : Order A) → ConsCalled coded meant Anything l o
  any_cons l (cons d a b) = tt
  any_cons l (car d r) = tt
  any_cons l (cdr d r) = tt
  any_cons l (rplaca r v) = tt
  any_cons l (rplacd r v) = tt
  any_cons l (put d a) = tt
  any_cons l (load d r) = tt
  any_cons l (clear d) = tt
  any_cons l (look r) = tt
  any_cons l (same a b) = tt
  any_cons l (hold r p) = tt
  any_cons l (back d t) = tt
  any_cons l (feed r p buffer) = tt

  pub refused_shows : (m : Machine) (l : Ledger A) (o : Order A) → Beside meant Anything m l → refusal (turn coded meant m o).reply ≡ true → (p : Root) (path : List Side) → root_shows meant (turn coded meant m o).after p path ≡ root_shows meant m p path
  refused_shows m l o s r p path =
      let g = pages coded meant lawful Anything m l o s (any_cons l o) in
      let left : (page coded meant (told o (turn coded meant m o).reply) l o).after ≡ l = page_leaves coded meant _ l o (ap refusal (sym g.replies) ∙ r) in
      root_shows_lem meant Anything (turn coded meant m o).after (page coded meant (told o (turn coded meant m o).reply) l o).after g.beside.agrees g.beside.opened p path
      ∙ (ap (λ (x : Ledger A). entry_shows x path (entry_of x p)) left ∙ sym (root_shows_lem meant Anything m l s.agrees s.opened p path))
