-- The first name that is taken, by the names that are wanted in another order, and list by list.
use Rattle.std.specs.Prelude.{ℕ, ◌≡◌, Bool, ◌&&◌, ◌||◌, List, [], ◌∷◌, ◌++◌, filter, Option, option_map, refl, IsPermutation}
use Rattle.std.specs.List.{list_any}
use Rattle.std.proofs.Common.{sym, ap, ◌∙◌}
use Rattle.std.proofs.lemmas.List.Elements.{filter-append}
use Rattle.std.proofs.lemmas.List.Folds.{list_any-append}
use Rattle.std.proofs.lemmas.List.Sorted.{list_any-IsPermutation}
use Rattle.cif_defs.specs.Order.{port_names, cell_names, net_names}
use Rattle.cif_defs.specs.declared.raw_module.RawCell.{RawCell}
use Rattle.cif_defs.specs.declared.raw_module.Raw.{Raw}
use Rattle.cif_augment.specs.Refusals.{first_name, is_numbered, is_numbered_for, names_fault, standing_names, taken_names, wanted_names}
use Rattle.cif_augment.specs.Taken.{earliest, is_taken}
use Rattle.cif_augment.specs.declared.fault.InstrumentFault.TheVariants.{NameTaken}
use Rattle.cif_augment.proofs.Doubles.{taken_alike}
use Rattle.cif_augment.proofs.FirstNames.{any_filter, first_append, same_first}

any_alike : {A : Type 0} (p q : A → Bool) → ((x : A) → p x ≡ q x) → (xs : List A) → list_any p xs ≡ list_any q xs
any_alike p q f [] = refl
any_alike p q f (x ∷ xs) = ap (λ b. b || list_any p xs) (f x) ∙ ap (λ b. q x || b) (any_alike p q f xs)

module _ (raw : Raw) (wanted : List (List ℕ)) (moved : IsPermutation (wanted_names raw) wanted) where
  wanted_alike : (q : List ℕ → Bool) → list_any q (filter (is_taken raw wanted) wanted) ≡ list_any q (filter (is_taken raw (wanted_names raw)) (wanted_names raw))
  wanted_alike q =
      any_filter (is_taken raw wanted) q wanted
      ∙ any_alike (λ x. is_taken raw wanted x && q x) (λ x. is_taken raw (wanted_names raw) x && q x) (λ x. ap (λ b. b && q x) (taken_alike raw (wanted_names raw) wanted moved x)) wanted
      ∙ sym (list_any-IsPermutation (λ x. is_taken raw (wanted_names raw) x && q x) (wanted_names raw) wanted moved)
      ∙ sym (any_filter (is_taken raw (wanted_names raw)) q (wanted_names raw))

  all_alike : (q : List ℕ → Bool) → list_any q (filter (is_taken raw wanted) wanted ++ filter (is_numbered raw) (standing_names raw)) ≡ list_any q (taken_names raw)
  unfolding taken_names
  all_alike q =
      list_any-append q (filter (is_taken raw wanted) wanted) (filter (is_numbered raw) (standing_names raw))
      ∙ ap (λ b. b || list_any q (filter (is_numbered raw) (standing_names raw))) (wanted_alike q)
      ∙ sym (list_any-append q (filter (is_taken raw (wanted_names raw)) (wanted_names raw)) (filter (is_numbered raw) (standing_names raw)))

  pub first_alike : first_name (filter (is_taken raw wanted) wanted ++ filter (is_numbered raw) (standing_names raw)) ≡ first_name (taken_names raw)
  first_alike = same_first (filter (is_taken raw wanted) wanted ++ filter (is_numbered raw) (standing_names raw)) (taken_names raw) all_alike

-- what was found among the names of things that were lent
pub found_in : (raw : Raw) (cells : List RawCell) (names others : List (List ℕ)) (found : Option (List ℕ)) → cells ≡ raw.cells → names ≡ others → found ≡ first_name (filter (λ name. list_any (is_numbered_for name) cells) names) → found ≡ first_name (filter (is_numbered raw) others)
found_in raw cells names others found e f is =
    is ∙ ap (λ (cs : List RawCell). first_name (filter (λ name. list_any (is_numbered_for name) cs) names)) e ∙ ap (λ (ns : List (List ℕ)). first_name (filter (is_numbered raw) ns)) f

-- the first name in each list, joined
pub joined : (raw : Raw) (wanted : List (List ℕ)) (found one two three : Option (List ℕ))
    → found ≡ first_name (filter (is_taken raw wanted) wanted) → one ≡ first_name (filter (is_numbered raw) (port_names raw.ports)) → two ≡ first_name (filter (is_numbered raw) (cell_names raw.cells)) → three ≡ first_name (filter (is_numbered raw) (net_names raw.names))
    → earliest found (earliest (earliest one two) three) ≡ first_name (filter (is_taken raw wanted) wanted ++ filter (is_numbered raw) (standing_names raw))
unfolding standing_names
joined raw wanted found one two three a b c d =
    let p = filter (is_numbered raw) (port_names raw.ports) in
    let q = filter (is_numbered raw) (cell_names raw.cells) in
    let r = filter (is_numbered raw) (net_names raw.names) in
    let early : earliest one two ≡ first_name (p ++ q) = ap (λ (o : Option (List ℕ)). earliest o two) b ∙ ap (earliest (first_name p)) c ∙ sym (first_append p q) in
    let all : earliest (earliest one two) three ≡ first_name (p ++ q ++ r) = ap (λ (o : Option (List ℕ)). earliest o three) early ∙ ap (earliest (first_name (p ++ q))) d ∙ sym (first_append (p ++ q) r) in
    let whole : p ++ q ++ r ≡ filter (is_numbered raw) (port_names raw.ports ++ cell_names raw.cells ++ net_names raw.names) =
    ap (λ (l : List (List ℕ)). l ++ r) (sym (filter-append (is_numbered raw) (port_names raw.ports) (cell_names raw.cells)))
    ∙ sym (filter-append (is_numbered raw) (port_names raw.ports ++ cell_names raw.cells) (net_names raw.names)) in
    ap (λ (o : Option (List ℕ)). earliest o (earliest (earliest one two) three)) a
    ∙ ap (earliest (first_name (filter (is_taken raw wanted) wanted))) all
    ∙ sym (first_append (filter (is_taken raw wanted) wanted) (p ++ q ++ r))
    ∙ ap (λ (l : List (List ℕ)). first_name (filter (is_taken raw wanted) wanted ++ l)) whole

pub fault_is : (raw : Raw) (wanted : List (List ℕ)) (found : Option (List ℕ)) → IsPermutation (wanted_names raw) wanted → found ≡ first_name (filter (is_taken raw wanted) wanted ++ filter (is_numbered raw) (standing_names raw)) → names_fault raw ≡ option_map NameTaken found
unfolding names_fault
fault_is raw wanted found moved is = ap (λ (o : Option (List ℕ)). option_map NameTaken o) (sym (first_alike raw wanted moved) ∙ sym is)

-- what was found in the module of a netlist
pub names_found : (raw r : Raw) (wanted lent : List (List ℕ)) (found : Option (List ℕ)) → r ≡ raw → lent ≡ wanted → IsPermutation (wanted_names raw) wanted → found ≡ first_name (filter (is_taken r lent) lent ++ filter (is_numbered r) (standing_names r)) → names_fault raw ≡ option_map NameTaken found
names_found raw r wanted lent found same is_lent moved is =
    fault_is raw wanted found moved
    (is ∙ ap (λ (x : Raw). first_name (filter (is_taken x lent) lent ++ filter (is_numbered x) (standing_names x))) same
    ∙ ap (λ (ns : List (List ℕ)). first_name (filter (is_taken raw ns) ns ++ filter (is_numbered raw) (standing_names raw))) is_lent)
