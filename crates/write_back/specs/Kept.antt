-- What entries may keep, and what leaves one.
use Rattle.std.specs.Prelude.{◌≡◌, ℕ, ◌%◌, ◌<◌, cond, List, Some, None, Option, ◌==◌, slice_index_or}
use Rattle.std.specs.Option.{ForSome}
use Rattle.write_back.specs.declared.entries.Late.{Late}

-- entry k has only words of its own places, those with i mod 8 = k
abbrev pub AllOwn : List (Option Late) → Type 0
AllOwn entries = (k : ℕ) → ForSome (slice_index_or entries k None) (λ late. late.place % 8 ≡ k)

-- each late word has its place in a list of n words
abbrev pub AllBelow : ℕ → List (Option Late) → Type 0
AllBelow n entries = (k : ℕ) → ForSome (slice_index_or entries k None) (λ late. late.place < n)

-- what leaves an entry when it takes a word of this place: the word of another
abbrev pub evicted : Option Late → ℕ → Option Late
evicted None place = None
evicted (Some late) place = cond (late.place == place) None (Some late)
