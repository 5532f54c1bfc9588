-- What a store answers, as a function of the list of words that it means.
use Rattle.std.specs.Prelude.{ℕ, cond, List, length, Ok, Err, Result, nat_lt, slice_index}
use Rattle.fault.specs.declared.Layer.TheVariants.{Store}
use Rattle.fault.specs.declared.Report.{Report}
use Rattle.store.specs.declared.faults.StoreFault.{StoreFault}
use Rattle.store.specs.declared.faults.StoreFault.TheVariants.{Outside}

-- number, layer and place of each case
abbrev pub store_report : StoreFault → Report
store_report (Outside place) = record { number = 14; layer = Store; place = place }

-- the word at a place, refused exactly past the end
abbrev pub read_answer : List ℕ → ℕ → Result ℕ StoreFault
read_answer ws place = cond (nat_lt place (length ws)) (Ok (slice_index ws place)) (Err (Outside place))

-- nothing, refused exactly past the end
abbrev pub write_answer : List ℕ → ℕ → Result (Unit {0}) StoreFault
write_answer ws place = cond (nat_lt place (length ws)) (Ok tt) (Err (Outside place))
