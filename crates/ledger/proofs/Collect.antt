-- The collector's share of a cons keeps memory and ledger together.
use Rattle.std.proofs.Common.{◌≡◌, ℕ, Bool, true, false, cond, get_or, Some, None, Option, refl, arith}
use Rattle.ledger.proofs.Flip.{Agrees, flip_agrees}
use Rattle.ledger.proofs.Roots.{WordStands, HoldStands}
use Rattle.ledger.proofs.Scan.{Scanned, Swept, scan_all}
use Rattle.ledger.proofs.Seen.{Never, stands_on}
use Rattle.ledger.proofs.Sound.{seen, Past}
use Rattle.ledger.specs.Ledger.{Row, Ledger, Entry}
use Rattle.machine.specs.Heap.{Heap, scan}
use Rattle.machine.specs.Machine.{Machine, flip, flip_due, flip_if_due, collected, with_heap}
use Rattle.std.proofs.lemmas.Bool.Decides.{nat_tests}

seen_swept : (h h' : Heap) (w : ℕ) → Swept h h' → seen h' w ≡ seen h w
seen_swept h h' w s = rw (s.upper, s.size)

module _ {X : Type 0} (meant : ℕ → Option X) (o : Past X) (own : ℕ → ℕ) (h h' : Heap) (g : Row X) (a : Scanned meant o own h g h') where
  word_swept : (w : ℕ) (e : Entry X) → WordStands meant o g Never own h w e → WordStands meant o g Never a.own' h' w e
  word_swept w e s = rw (seen_swept h h' w a.swept) (stands_on meant (seen h w) e a.grown (λ j n. (n, refl)) s)

  hold_swept : (w : Option ℕ) (e : Option (Entry X)) → HoldStands meant o g Never own h w e → HoldStands meant o g Never a.own' h' w e
  hold_swept None None s = s
  hold_swept None (Some e) s = s
  hold_swept (Some w) None s = s
  hold_swept (Some w) (Some e) s = word_swept w e s

module _ {X : Type 0} (meant : ℕ → Option X) (Q : Ledger X → Type 0) where
  scanned_agrees : (m : Machine) (l : Ledger X) (h' : Heap) (agrees : Agrees meant Q m l) → Scanned meant agrees.o agrees.own m.heap l.row h' → Agrees meant Q (with_heap m h') l
  scanned_agrees m l h' agrees a =
      record {
        o = agrees.o;
        own = a.own';
        sound = a.sound;
        roomy = λ b. omega (arith, agrees.roomy (a.busy b), a.swept.prior, a.swept.top);
        registers = λ r s. word_swept meant agrees.o agrees.own m.heap h' l.row a (get_or m.roots.registers r 0) (l.registers r) (agrees.registers r s);
        holds = λ p s. hold_swept meant agrees.o agrees.own m.heap h' l.row a (get_or m.roots.holds p None) (l.holds p) (agrees.holds p s);
        sixteen = agrees.sixteen;
        eight = agrees.eight;
        past = agrees.past;
      }

  pub scan_agrees : (n : ℕ) (m : Machine) (l : Ledger X) → Agrees meant Q m l → Agrees meant Q (with_heap m (scan n m.heap)) l
  scan_agrees n m l agrees = scanned_agrees m l (scan n m.heap) agrees (scan_all meant agrees.o n agrees.own m.heap l.row agrees.sound agrees.roomy)

pub due_over : (m : Machine) → flip_due m ≡ true → m.heap.marks.scanned ≡ m.heap.marks.copied
due_over m e = grind (arith, nat_tests)

module _ {X : Type 0} (meant : ℕ → Option X) (Q : Ledger X → Type 0) where
  flips_by : (m : Machine) (l : Ledger X) (due : Bool) → flip_due m ≡ due → Agrees meant Q m l → Q l → Agrees meant Q (cond due (flip m) m) l
  flips_by m l true e agrees now = flip_agrees meant Q Q m l agrees (due_over m e) now
  flips_by m l false e agrees now = agrees

  pub flip_if_due_agrees : (m : Machine) (l : Ledger X) → Agrees meant Q m l → Q l → Agrees meant Q (flip_if_due m) l
  flip_if_due_agrees m l agrees now = flips_by m l (flip_due m) refl agrees now

  pub collect_agrees : (m : Machine) (l : Ledger X) → Agrees meant Q m l → Q l → Agrees meant Q (collected m) l
  collect_agrees m l agrees now = scan_agrees meant Q m.terms.pace (flip_if_due m) l (flip_if_due_agrees m l agrees now)
