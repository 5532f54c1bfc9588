-- Late words over a list: how each place reads, and that keeping a word sets it and sending one down changes nothing.
use Rattle.std.proofs.Common.{◌≡◌, ℕ, ◌+◌, ◌%◌, ◌<◌, List, [], length, get_or, set, take, replicate, Some, None, Option, sym, refl, ap, ◌∙◌, inl, inr, arith}
use Rattle.std.specs.Option.{ForSome}
use Rattle.std.proofs.lemmas.Bool.{cases_eq}
use Rattle.std.proofs.lemmas.Grind.{common_steps}
use Rattle.std.proofs.lemmas.List.FromFn.{length-map-range_with_len, get_or-map-range_with_len}
use Rattle.std.proofs.lemmas.List.{ext_get_or, length-set, get_or-set_other, set_past}
use Rattle.write_back.specs.Kept.{AllBelow, AllOwn, evicted}
use Rattle.write_back.specs.Overlay.{overlaid, word_at, word_in, over}
use Rattle.write_back.specs.declared.entries.Late.{Late}

pub length-overlaid : (ws : List ℕ) (entries : List (Option Late)) → length (overlaid ws entries) ≡ length ws
unfolding overlaid
length-overlaid ws entries = length-map-range_with_len _ 0 (length ws)

pub get_or-overlaid : (ws : List ℕ) (entries : List (Option Late)) (i : ℕ) →
    i < length ws → get_or (overlaid ws entries) i 0 ≡ word_at ws entries i
unfolding overlaid
get_or-overlaid ws entries i h = get_or-map-range_with_len _ 0 (length ws) i i 0 h (omega arith)

-- a list that has the same words at all places
overlaid_by_words : (ws xs : List ℕ) (entries : List (Option Late)) →
    length xs ≡ length ws → ((i : ℕ) → i < length ws → get_or xs i 0 ≡ word_at ws entries i) → overlaid ws entries ≡ xs
overlaid_by_words ws xs entries e each =
    ext_get_or 0 (overlaid ws entries) xs (length-overlaid ws entries ∙ sym e)
    (λ i h.
    let lt : i < length ws = omega (arith, length-overlaid ws entries) in
    get_or-overlaid ws entries i lt ∙ sym (each i lt))

get_or-replicate_same : {X : Type 0} (n i : ℕ) (d : X) → get_or (replicate n d) i d ≡ d
get_or-replicate_same n i d = grind (arith, common_steps)

pub overlaid_fresh : (ws : List ℕ) (entries : List (Option Late)) → entries ≡ replicate 8 None → overlaid ws entries ≡ ws
overlaid_fresh ws entries fresh =
    overlaid_by_words ws ws entries refl
    (λ i h. rw (fresh, get_or-replicate_same {X = Option Late} 8 (i % 8) None) refl)

pub overlaid_nil : (ws : List ℕ) → overlaid ws [] ≡ ws
overlaid_nil ws = overlaid_by_words ws ws [] refl (λ i h. refl)

-- the list below once a late word was sent down
abbrev pub sent : List ℕ → Option Late → List ℕ
sent ws None = ws
sent ws (Some late) = set ws late.place late.word

length-sent : (ws : List ℕ) (entry : Option Late) → length (sent ws entry) ≡ length ws
length-sent ws None = refl
length-sent ws (Some late) = length-set ws late.place late.word

get_or-sent : (ws : List ℕ) (entry : Option Late) (i : ℕ) →
    i < length ws → get_or (sent ws entry) i 0 ≡ over (word_in entry i) (get_or ws i 0)
get_or-sent ws None i h = refl
get_or-sent ws (Some late) i h = grind (arith, common_steps)

-- a place of another entry
word_in-own : (entry : Option Late) (k i : ℕ) →
    ForSome entry (λ late. late.place % 8 ≡ k) → (i % 8 ≡ k → ⊥) → word_in entry i ≡ None
word_in-own None k i own ne = refl
word_in-own (Some late) k i own ne = let e = own late refl in grind (arith, common_steps)

word_in-evicted : (entry : Option Late) (place i : ℕ) → (i ≡ place → ⊥) → word_in (evicted entry place) i ≡ word_in entry i
word_in-evicted None place i ne = refl
word_in-evicted (Some late) place i ne = grind (arith, common_steps)

pub overlaid_kept : (ws : List ℕ) (entries : List (Option Late)) (late : Late) (old : Option Late) →
    late.place < length ws → late.place % 8 < length entries → old ≡ evicted (get_or entries (late.place % 8) None) late.place →
    ForSome old (λ other. other.place % 8 ≡ late.place % 8) →
    overlaid (sent ws old) (set entries (late.place % 8) (Some late)) ≡ set (overlaid ws entries) late.place late.word
overlaid_kept ws entries late old h room is own =
    let k = late.place % 8 in
    let before = overlaid ws entries in
    overlaid_by_words (sent ws old) (set before late.place late.word) (set entries k (Some late))
    (length-set before late.place late.word ∙ length-overlaid ws entries ∙ sym (length-sent ws old))
    (λ i lt.
    let inside : i < length ws = omega (arith, length-sent ws old) in
    rw (get_or-sent ws old i inside)
    (elim (cases_eq i late.place) [
      | inl e ↦ grind (arith, common_steps, length-overlaid)
      | inr ne ↦
          elim (cases_eq (i % 8) k) [
            | inl e ↦ rw is (grind (arith, common_steps, get_or-overlaid, word_in-evicted))
            | inr far ↦ rw (word_in-own old k i own far) (grind (arith, common_steps, get_or-overlaid))
          ]
    ]))

pub all_below_kept : (n k : ℕ) (entries : List (Option Late)) (late : Late) →
    AllBelow n entries → late.place < n → AllBelow n (set entries k (Some late))
all_below_kept n k entries late below lt =
    λ j other is.
    elim (cases_eq j k) [
      | inl e ↦ let same = ap (λ m. get_or (set entries k (Some late)) m None) (sym e) ∙ is in grind (arith, common_steps)
      | inr ne ↦ below j other (sym (get_or-set_other entries k j (Some late) None ne) ∙ is)
    ]

overlaid_sent : (ws : List ℕ) (entries : List (Option Late)) (k : ℕ) (entry : Option Late) →
    get_or entries k None ≡ entry → AllOwn entries → sent (overlaid ws (take k entries)) entry ≡ overlaid ws (take (k + 1) entries)
overlaid_sent ws entries k entry is own =
    let before = overlaid ws (take k entries) in
    sym (overlaid_by_words ws (sent before entry) (take (k + 1) entries)
    (length-sent before entry ∙ length-overlaid ws (take k entries))
    (λ i lt.
    let inside : i < length before = omega (arith, length-overlaid ws (take k entries)) in
    rw (get_or-sent before entry i inside, get_or-overlaid ws (take k entries) i lt, ← is)
    (elim (cases_eq (i % 8) k) [
      | inl e ↦ grind (arith, common_steps)
      | inr ne ↦ rw (word_in-own (get_or entries k None) k i (own k) ne) (grind (arith, common_steps))
    ])))

pub sent_some : (ws : List ℕ) (entries : List (Option Late)) (k : ℕ) (late : Late) →
    get_or entries k None ≡ Some late → AllOwn entries →
    set (overlaid ws (take k entries)) late.place late.word ≡ overlaid ws (take (k + 1) entries)
sent_some ws entries k late is own = overlaid_sent ws entries k (Some late) is own

pub sent_none : (ws : List ℕ) (entries : List (Option Late)) (k : ℕ) →
    get_or entries k None ≡ None → AllOwn entries → overlaid ws (take k entries) ≡ overlaid ws (take (k + 1) entries)
sent_none ws entries k is own = overlaid_sent ws entries k None is own

pub ruleset layers = (length-overlaid, get_or-overlaid, overlaid_fresh, overlaid_nil, sent_some, sent_none, set_past)
