-- A loop that puts each element's result back in its place goes along the list.
use Rattle.std.proofs.Common.{◌≡◌, ℕ, ◌+◌, ◌<◌, ◌≤◌, List, [], ◌∷◌, ◌++◌, length, get_or, take, drop, set, sym, ap, ◌∙◌, append_assoc, append-nil, arith}
use Rattle.machine.specs.Heap.{Heap, Step, along, still}
use Rattle.std.proofs.lemmas.List.{take_more_set, take_all, drop-set-lt, at_drop_more, at_drop_all}

module _ {X : Type 0} (step : Heap → X → Step X) where
  -- what comes of the rest of a list, behind the elements that are done
  abbrev onto : List X → Heap → List X → Step (List X)
  onto done h rest = record { after = (along step h rest).after; value = done ++ (along step h rest).value }

  -- what comes of a list whose first i elements are done
  abbrev pub resumed : ℕ → Heap → List X → Step (List X)
  resumed i h xs = onto (take i xs) h (drop i xs)

  module _ (i : ℕ) (h : Heap) (xs : List X) where
    pub resumed_on : (d y : X) (h' : Heap) → i < length xs → h' ≡ (step h (get_or xs i d)).after → y ≡ (step h (get_or xs i d)).value → resumed (i + 1) h' (set xs i y) ≡ resumed i h xs
    unfolding along
    resumed_on d y h' inside e f =
        let done : List X = take i xs in
        let rest : List X = drop (i + 1) xs in
        let x : X = get_or xs i d in
        ap (λ front. onto front h' (drop (i + 1) (set xs i y))) (take_more_set xs i y inside)
        ∙ ap (onto (done ++ y ∷ []) h') (drop-set-lt (i + 1) xs i y (omega arith))
        ∙ ap (λ v. record { after = (along step h' rest).after; value = v }) (append_assoc done (y ∷ []) _)
        ∙ ap (λ k. record { after = (along step k rest).after; value = done ++ y ∷ (along step k rest).value }) e
        ∙ ap (λ z. record { after = (along step (step h x).after rest).after; value = done ++ z ∷ (along step (step h x).after rest).value }) f
        ∙ sym (at_drop_more (onto done h) xs i d inside)

    pub resumed_all : length xs ≤ i → resumed i h xs ≡ still h xs
    unfolding along
    resumed_all outside =
        at_drop_all (onto (take i xs) h) xs i outside
        ∙ ap (λ v. still h v) (append-nil (take i xs) ∙ take_all i xs outside)
