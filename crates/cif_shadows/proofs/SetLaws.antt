-- Bits that are set one after another.
use Rattle.std.specs.Prelude.{ℕ, ◌+◌, ◌-◌, ◌<◌, ◌≤◌, ◌≡◌, Bool, false, List, [], ◌∷◌, ◌++◌, length, take, drop, get_or, Contains, Option, Some, None, refl}
use Rattle.std.proofs.Common.{arith, ap, sym, ◌∙◌, inl, inr, take-append-drop}
use Rattle.std.proofs.lemmas.List.{get_or_append_left, get_or-append_right, drop-drop, get_or-map, get_or_default, length-append, length-drop, length-map, length-take, take_more}
use Rattle.std.proofs.Math.Seq.{take-add}
use Rattle.std.proofs.lemmas.List.Folds.{length-flat_map-take}
use Rattle.std.proofs.lemmas.List.Elements.{Contains-append_left, Contains-append_right}
use Rattle.cif_defs.proofs.WordLaws.{le_or_lt}
use Rattle.cif_defs.specs.declared.nets.Src.{Src}
use Rattle.cif_defs.specs.declared.raw_module.RawBit.{RawBit}
use Rattle.cif_defs.specs.declared.raw_module.RawBit.TheVariants.{Zero}
use Rattle.cif_shadows.specs.Tables.{AreSet, AreTargets, ShadowTable, input_targets, target_of_source}
use Rattle.cif_shadows.proofs.Targets.{in_right, joined, joined_more, joined_split, targets_left, targets_right}

-- ---- one after another

both_set : (n : ℕ) (xs ys : List (Option ℕ)) (ps bs : List RawBit) (s t u : ShadowTable) → length ps ≡ length xs → AreTargets n (xs ++ ys) → AreSet xs ps s t → AreSet ys bs t u → AreSet (xs ++ ys) (ps ++ bs) s u
both_set n xs ys ps bs s t u wide all first then = record {
  barred = then.barred ∙ first.barred;
  as_many = then.as_many ∙ first.as_many;
  there = λ i b h free. elim (le_or_lt i (length xs)) [
    | inl l ↦ here i b h free l
    | inr l ↦ later i b h free l
  ];
  elsewhere = λ b apart. then.elsewhere b (λ k. apart (Contains-append_right xs ys (Some b) k)) ∙ first.elsewhere b (λ k. apart (Contains-append_left xs ys (Some b) k));
} where
  not_again : (i b : ℕ) → get_or (xs ++ ys) i None ≡ Some b → i < length xs → Contains ys (Some b) → ⊥
  not_again i b h l k =
      let again : get_or ys k.0 None ≡ Some b = get_or_default ys k.0 None (Some b) k.1 ∙ k.2 in
      let same : i ≡ length xs + k.0 = all.once i (length xs + k.0) b h (in_right xs ys k.0 b again) in
      omega arith

  here : (i b : ℕ) → get_or (xs ++ ys) i None ≡ Some b → get_or s.barred b false ≡ false → i < length xs → get_or u.bits b Zero ≡ get_or (ps ++ bs) i Zero
  here i b h free l =
      then.elsewhere b (not_again i b h l)
      ∙ first.there i b (sym (get_or_append_left xs ys None i l) ∙ h) free
      ∙ sym (get_or_append_left ps bs Zero i (omega arith))

  later : (i b : ℕ) → get_or (xs ++ ys) i None ≡ Some b → get_or s.barred b false ≡ false → length xs ≤ i → get_or u.bits b Zero ≡ get_or (ps ++ bs) i Zero
  later i b h free l =
      then.there (i - length xs) b (sym (get_or-append_right xs ys (length xs) i None refl l) ∙ h) (ap (λ (bars : List Bool). get_or bars b false) first.barred ∙ free)
      ∙ sym (get_or-append_right ps bs (length xs) i Zero wide l)

-- one more target of a list
pub each_more : (n i : ℕ) (targets : List (Option ℕ)) (bits : List RawBit) (x : Option ℕ) (d : RawBit) (s t u : ShadowTable) → AreTargets n targets → length bits ≡ length targets → i < length targets → get_or targets i None ≡ x
    → AreSet (take i targets) (take i bits) s t → AreSet (x ∷ []) (get_or bits i d ∷ []) t u → AreSet (take (i + 1) targets) (take (i + 1) bits) s u
each_more n i targets bits x d s t u all wide l is before now =
    let xs : take (i + 1) targets ≡ take i targets ++ x ∷ [] = take_more targets i None l ∙ ap (λ (z : Option ℕ). take i targets ++ z ∷ []) is in
    let ys : take (i + 1) bits ≡ take i bits ++ get_or bits i d ∷ [] = take_more bits i d (omega arith) in
    let part : AreTargets n (take (i + 1) targets) = targets_left n (take (i + 1) targets) (drop (i + 1) targets) targets (take-append-drop (i + 1) targets) all in
    let some : AreTargets n (take i targets ++ x ∷ []) = rw xs at part in
    rw (xs, ys) (both_set n (take i targets) (x ∷ []) (take i bits) (get_or bits i d ∷ []) s t u (omega (arith, length-take i bits, length-take i targets)) some before now)

-- the targets of one more output
more_targets : (n i : ℕ) (outputs : List (List (Option ℕ))) (d : List (Option ℕ)) → i < length outputs → AreTargets n (joined outputs) → AreTargets n (joined (take i outputs) ++ get_or outputs i d)
more_targets n i outputs d l all =
    let part : AreTargets n (joined (take (i + 1) outputs)) = targets_left n (joined (take (i + 1) outputs)) (joined (drop (i + 1) outputs)) (joined outputs) (joined_split outputs (i + 1)) all in
    rw (joined_more outputs i d l) at part

pub targets_at : (n i : ℕ) (outputs : List (List (Option ℕ))) (targets d : List (Option ℕ)) → i < length outputs → targets ≡ get_or outputs i d → AreTargets n (joined outputs) → AreTargets n targets
targets_at n i outputs targets d l is all = rw is (targets_right n (joined (take i outputs)) (get_or outputs i d) (more_targets n i outputs d l all))

-- the first i outputs are set, and these bits are left
pub record AreSetUpTo (outputs : List (List (Option ℕ))) (bits rest : List RawBit) (i : ℕ) (before after : ShadowTable) : Type 0 where
  pub left : rest ≡ drop (length (joined (take i outputs))) bits
  pub set : AreSet (joined (take i outputs)) (take (length (joined (take i outputs))) bits) before after

-- what is left suffices for the next output
pub room : (outputs : List (List (Option ℕ))) (bits rest : List RawBit) (i : ℕ) (targets d : List (Option ℕ)) → length bits ≡ length (joined outputs) → i < length outputs → targets ≡ get_or outputs i d → rest ≡ drop (length (joined (take i outputs))) bits
    → length targets ≤ length rest
room outputs bits rest i targets d wide l is left =
    let few : length (joined (take i outputs)) + length (get_or outputs i d) ≤ length (joined outputs) = length-flat_map-take (λ (each : List (Option ℕ)). each) outputs i d l in
    omega (arith, ap length is, ap length left, length-drop (length (joined (take i outputs))) bits)

pub output_more : (n i : ℕ) (outputs : List (List (Option ℕ))) (bits rest here later : List RawBit) (targets d : List (Option ℕ)) (s t u : ShadowTable) → AreTargets n (joined outputs) → length bits ≡ length (joined outputs) → i < length outputs
    → targets ≡ get_or outputs i d → here ≡ take (length targets) rest → later ≡ drop (length targets) rest → AreSetUpTo outputs bits rest i s t → AreSet targets here t u → AreSetUpTo outputs bits later (i + 1) s u
output_more n i outputs bits rest here later targets d s t u all wide l is front back before now =
    let k : ℕ = length (joined (take i outputs)) in
    let m : ℕ = length targets in
    let few : length (joined (take i outputs)) + length (get_or outputs i d) ≤ length (joined outputs) = length-flat_map-take (λ (each : List (Option ℕ)). each) outputs i d l in
    let more : joined (take (i + 1) outputs) ≡ joined (take i outputs) ++ targets = joined_more outputs i d l ∙ ap (λ (zs : List (Option ℕ)). joined (take i outputs) ++ zs) (sym is) in
    let longer : length (joined (take (i + 1) outputs)) ≡ k + m = ap length more ∙ length-append (joined (take i outputs)) targets in
    let bits_more : take (length (joined (take (i + 1) outputs))) bits ≡ take k bits ++ here =
    ap (λ (x : ℕ). take x bits) longer ∙ take-add k m bits ∙ ap (λ (zs : List RawBit). take k bits ++ take m zs) (sym before.left) ∙ ap (λ (zs : List RawBit). take k bits ++ zs) (sym front) in
    let some : AreTargets n (joined (take i outputs) ++ targets) = rw is (more_targets n i outputs d l all) in
    let long : length (take k bits) ≡ length (joined (take i outputs)) = omega (arith, length-take k bits) in
    record {
      left = back ∙ ap (drop m) before.left ∙ drop-drop m k bits ∙ ap (λ (x : ℕ). drop x bits) (sym longer);
      set = rw (bits_more, more) (both_set n (joined (take i outputs)) targets (take k bits) here s t u long some before.set now);
    }

-- ---- the bits of an input port

pub source_target : (port : List Src) (i : ℕ) (d : Src) (target : Option ℕ) → i < length port → target ≡ target_of_source (get_or port i d) → get_or (input_targets port) i None ≡ target
source_target port i d target l is = get_or-map target_of_source port i d None l ∙ sym is

pub as_many_targets : (port : List Src) → length (input_targets port) ≡ length port
as_many_targets port = length-map port target_of_source

pub source_below : (n i : ℕ) (port : List Src) (d : Src) (target : Option ℕ) → AreTargets n (input_targets port) → i < length port → target ≡ target_of_source (get_or port i d) → (b : ℕ) → target ≡ Some b → b < n
source_below n i port d target all l is b e = all.below i b (source_target port i d target l is ∙ e)
