-- Trails: chains as they are found, going backward; and the chain that a trail is.
use Rattle.std.specs.Prelude.{ℕ, zero, suc, ◌+◌, ◌-◌, ◌<◌, ◌≡◌, ◌⊎◌, Bool, true, false, List, [], ◌∷◌, ◌++◌, length, get_or, find, reverse, Some, refl}
use Rattle.std.proofs.Common.{arith, sym, ap, ◌∙◌, inl, inr, subst}
use Rattle.std.proofs.lemmas.List.{get_or_append_left, get_or_push, get_or-reverse, length_push, length-reverse}
use Rattle.cif_defs.specs.Netlist.{Netlist, driver_of}
use Rattle.cif_defs.specs.Stimulus.{Stimulus}
use Rattle.cif_defs.specs.TaintRun.{taint}
use Rattle.cif_defs.specs.declared.nets.Src.TheVariants.{Bit}
use Rattle.cif_defs.proofs.WordLaws.{le_or_lt}
use Rattle.cif_supports.specs.declared.places.Place.{Place}
use Rattle.cif_supports.specs.declared.places.Member.{Member}
use Rattle.cif_supports.specs.Places.{driving_place}
use Rattle.cif_supports.specs.Chains.{IsFirstChain, IsRunnable, at_cycle, is_beginning, is_tainted_member, no_member, support_of}
use Rattle.cif_supports.proofs.Lists.{first_is_contained}
use Rattle.cif_supports.proofs.TaintedPlaces.{place_tainted}
use Rattle.cif_supports.proofs.SupportLaw.{first_tainted}
use Rattle.cif_supports.proofs.Ranks.{member_rank, support_rank}

-- the last member of a trail
abbrev pub end_of : List Member → Member
end_of trail = get_or trail (length trail - 1) no_member

-- from a member backward, each time to the first tainted member of the support
pub record IsTrail (n : Netlist) (s : Stimulus) (from : Member) (trail : List Member) : Type 0 where
  pub not_empty : 0 < length trail
  pub starts : get_or trail 0 no_member ≡ from
  pub tainted : (j : ℕ) → j < length trail → is_tainted_member n s (get_or trail j no_member) ≡ true
  pub takes_first : (j : ℕ) → suc j < length trail → find (is_tainted_member n s) (support_of n s (get_or trail j no_member)) ≡ Some (get_or trail (suc j) no_member)

-- ---- one member, and one more

pub trail_of_one : (n : Netlist) (s : Stimulus) (m : Member) → is_tainted_member n s m ≡ true → IsTrail n s m (m ∷ [])
trail_of_one n s m h = record {
  not_empty = omega arith;
  starts = refl;
  tainted = λ j l. (let e : j ≡ 0 = omega arith in subst (λ i. is_tainted_member n s (get_or (m ∷ []) i no_member) ≡ true) (sym e) h);
  takes_first = λ j l. absurd (omega arith);
}

pushed_same : (xs : List Member) (q : Member) (j : ℕ) → j < length xs → get_or (xs ++ q ∷ []) j no_member ≡ get_or xs j no_member
pushed_same xs q j l = get_or_append_left xs (q ∷ []) no_member j l

pushed_tainted : (n : Netlist) (s : Stimulus) (xs : List Member) (q : Member) (j : ℕ) → ((j : ℕ) → j < length xs → is_tainted_member n s (get_or xs j no_member) ≡ true) → is_tainted_member n s q ≡ true
    → j < length (xs ++ q ∷ []) → is_tainted_member n s (get_or (xs ++ q ∷ []) j no_member) ≡ true
pushed_tainted n s xs q j h e l = elim (le_or_lt j (length xs)) [
  | inl m ↦ ap (is_tainted_member n s) (pushed_same xs q j m) ∙ h j m
  | inr m ↦ (let at : length xs ≡ j = (let long = length_push xs q in omega arith) in ap (is_tainted_member n s) (get_or_push xs q no_member j at) ∙ e)
]

pushed_first : (n : Netlist) (s : Stimulus) (xs : List Member) (q : Member) (j : ℕ)
    → ((j : ℕ) → suc j < length xs → find (is_tainted_member n s) (support_of n s (get_or xs j no_member)) ≡ Some (get_or xs (suc j) no_member))
    → find (is_tainted_member n s) (support_of n s (end_of xs)) ≡ Some q → suc j < length (xs ++ q ∷ [])
    → find (is_tainted_member n s) (support_of n s (get_or (xs ++ q ∷ []) j no_member)) ≡ Some (get_or (xs ++ q ∷ []) (suc j) no_member)
pushed_first n s xs q j h e l =
    let long = length_push xs q in
    let here : get_or (xs ++ q ∷ []) j no_member ≡ get_or xs j no_member = pushed_same xs q j (omega arith) in
    elim (le_or_lt (suc j) (length xs)) [
      | inl m ↦ ap (λ (x : Member). find (is_tainted_member n s) (support_of n s x)) here ∙ h j m ∙ ap Some (sym (pushed_same xs q (suc j) m))
      | inr m ↦ (let at : length xs ≡ suc j = omega arith in
          let last : j ≡ length xs - 1 = omega arith in
          ap (λ (x : Member). find (is_tainted_member n s) (support_of n s x)) (here ∙ ap (λ i. get_or xs i no_member) last) ∙ e ∙ ap Some (sym (get_or_push xs q no_member (suc j) at)))
    ]

pub longer_trail : (n : Netlist) (s : Stimulus) (from : Member) (xs : List Member) (q : Member) → IsTrail n s from xs → find (is_tainted_member n s) (support_of n s (end_of xs)) ≡ Some q → IsTrail n s from (xs ++ q ∷ [])
longer_trail n s from xs q t e =
    let some : 0 < length xs = t.not_empty in
    let long : length (xs ++ q ∷ []) ≡ length xs + 1 = length_push xs q in
    record {
      not_empty = omega arith;
      starts = pushed_same xs q 0 some ∙ t.starts;
      tainted = λ j l. pushed_tainted n s xs q j t.tainted (first_is_contained (is_tainted_member n s) (support_of n s (end_of xs)) q e).1 l;
      takes_first = λ j l. pushed_first n s xs q j t.takes_first e l;
    }

-- ---- a trail to a beginning is a chain, backward

reversed_at : (xs : List Member) (j i : ℕ) → j < length xs → i + j + 1 ≡ length xs → get_or (reverse xs) j no_member ≡ get_or xs i no_member
reversed_at xs j i l e = let at : length xs - 1 - j ≡ i = omega arith in get_or-reverse xs j no_member l ∙ ap (λ k. get_or xs k no_member) at

pub chain_of_trail : (n : Netlist) (s : Stimulus) (b k : ℕ) (place : Place) (xs : List Member) → driving_place n (driver_of n b) ≡ Some place → IsTrail n s (at_cycle k place) xs → is_beginning (end_of xs).cycle (end_of xs).place ≡ true
    → IsFirstChain n s b k (reverse xs)
chain_of_trail n s b k place xs drives t h =
    let some : 0 < length xs = t.not_empty in
    let long : length (reverse xs) ≡ length xs = length-reverse xs in
    let first : get_or (reverse xs) 0 no_member ≡ end_of xs = reversed_at xs 0 (length xs - 1) some (omega arith) in
    let last : get_or (reverse xs) (length (reverse xs) - 1) no_member ≡ at_cycle k place = reversed_at xs (length (reverse xs) - 1) 0 (omega arith) (omega arith) ∙ t.starts in
    let takes : (j : ℕ) → suc j < length (reverse xs) → find (is_tainted_member n s) (support_of n s (get_or (reverse xs) (suc j) no_member)) ≡ Some (get_or (reverse xs) j no_member) =
    λ j l. (let i : ℕ = length xs - 2 - j in
    let later : get_or (reverse xs) (suc j) no_member ≡ get_or xs i no_member = reversed_at xs (suc j) i (omega arith) (omega arith) in
    let before : get_or (reverse xs) j no_member ≡ get_or xs (suc i) no_member = reversed_at xs j (suc i) (omega arith) (omega arith) in
    ap (λ (x : Member). find (is_tainted_member n s) (support_of n s x)) later ∙ t.takes_first i (omega arith) ∙ ap Some (sym before)) in
    record {
      is_chain = record {
        not_empty = omega arith;
        tainted = λ j l. (let i : ℕ = length xs - 1 - j in ap (is_tainted_member n s) (reversed_at xs j i (omega arith) (omega arith)) ∙ t.tainted i (omega arith));
        begins = ap (λ (m : Member). is_beginning m.cycle m.place) first ∙ h;
        follows = λ j l. (first_is_contained (is_tainted_member n s) (support_of n s (get_or (reverse xs) (suc j) no_member)) (get_or (reverse xs) j no_member) (takes j l)).0;
        ends_at = ap (λ (m : Member). m.cycle) last;
        ends = drives ∙ ap (λ (m : Member). Some m.place) (sym last);
      };
      takes_first = takes;
    }

-- ---- a chain exists

begins_or_not : (b : Bool) → (b ≡ true) ⊎ (b ≡ false)
begins_or_not true = inl refl
begins_or_not false = inr refl

abbrev Ends : Netlist → Stimulus → Member → Type 0
Ends n s from = (trail : List Member) × IsTrail n s from trail × (is_beginning (end_of trail).cycle (end_of trail).place ≡ true)

end_pushed : (xs : List Member) (q : Member) → end_of (xs ++ q ∷ []) ≡ q
end_pushed xs q = get_or_push xs q no_member (length (xs ++ q ∷ []) - 1) (let long = length_push xs q in omega arith)

-- the end falls with each member
trail_ends : (n : Netlist) (order : List ℕ) (s : Stimulus) (d : ℕ) (from : Member) (trail : List Member) → IsRunnable n order → IsTrail n s from trail → member_rank n order (end_of trail) < d → Ends n s from
trail_ends n order s zero from trail r t l = absurd (omega arith)
trail_ends n order s (suc d) from trail r t l = elim (begins_or_not (is_beginning (end_of trail).cycle (end_of trail).place)) [
  | inl e ↦ (trail, t, e)
  | inr e ↦ (let some : 0 < length trail = t.not_empty in
      let more = first_tainted n order s (end_of trail) r (t.tainted (length trail - 1) (omega arith)) e in
      let q : Member = more.0 in
      let below : member_rank n order q < member_rank n order (end_of trail) = support_rank n order s (end_of trail).cycle (end_of trail).place q r more.2 in
      let falls : member_rank n order (end_of (trail ++ q ∷ [])) < d = (let same : member_rank n order (end_of (trail ++ q ∷ [])) ≡ member_rank n order q = ap (member_rank n order) (end_pushed trail q) in omega arith) in
      trail_ends n order s d from (trail ++ q ∷ []) r (longer_trail n s from trail q t more.1) falls)
]

-- every tainted net bit has a chain
pub chain_of_tainted : (n : Netlist) (order : List ℕ) (s : Stimulus) (b k : ℕ) → IsRunnable n order → taint n s k b ≡ true → (chain : List Member) × IsFirstChain n s b k chain
chain_of_tainted n order s b k r h =
    let found = place_tainted n order s k (Bit b) r h in
    let from : Member = at_cycle k found.0 in
    let ends = trail_ends n order s (suc (member_rank n order from)) from (from ∷ []) r (trail_of_one n s from found.2) (omega arith) in
    (reverse ends.0, chain_of_trail n s b k found.0 ends.0 found.1 ends.1 ends.2)
