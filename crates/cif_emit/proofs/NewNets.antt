-- New nets, one after another.
use Rattle.std.specs.Prelude.{ℕ, suc, ◌+◌, ◌≡◌, true, false, List, [], ◌∷◌, ◌++◌, length, refl}
use Rattle.std.specs.List.{list_all}
use Rattle.std.proofs.Common.{arith, ap, ◌∙◌, length-append}
use Rattle.std.proofs.lemmas.List.Folds.{list_all-append}
use Rattle.cif_defs.specs.RawModule.{nets_in, is_net}
use Rattle.cif_defs.specs.declared.raw_module.RawBit.{RawBit}
use Rattle.cif_defs.specs.declared.raw_module.RawBit.TheVariants.{Net, Zero, One, X, Z}
use Rattle.cif_checks.specs.Checks.{has_number}
use Rattle.cif_emit.specs.Makers.{Maker, IsFree, RiseBetween, with_number}
use Rattle.cif_emit.specs.Handed.{AreNewNets, IsKept}
use Rattle.cif_emit.proofs.Numbers.{rise_append}

pub nets_in-append : (xs ys : List RawBit) → nets_in (xs ++ ys) ≡ nets_in xs ++ nets_in ys
nets_in-append [] ys = refl
nets_in-append (Net x ∷ xs) ys = ap (λ (l : List ℕ). x ∷ l) (nets_in-append xs ys)
nets_in-append (Zero ∷ xs) ys = nets_in-append xs ys
nets_in-append (One ∷ xs) ys = nets_in-append xs ys
nets_in-append (X ∷ xs) ys = nets_in-append xs ys
nets_in-append (Z ∷ xs) ys = nets_in-append xs ys

-- as many numbers as bits, where each bit is a net
pub length-nets : (bits : List RawBit) → list_all is_net bits ≡ true → length (nets_in bits) ≡ length bits
length-nets [] h = refl
length-nets (Net x ∷ bits) h = ap suc (length-nets bits h)
length-nets (Zero ∷ bits) h = absurd (cc)
length-nets (One ∷ bits) h = absurd (cc)
length-nets (X ∷ bits) h = absurd (cc)
length-nets (Z ∷ bits) h = absurd (cc)

pub record AreNetsSoFar (before after : Maker) (width : ℕ) (bits : List RawBit) : Type 0 where
  pub nets : AreNewNets before after width bits
  pub kept : IsKept before after

pub no_nets : (m : Maker) → AreNetsSoFar m m 0 []
no_nets m = record {
  nets = record { numbers = omega arith; nets = refl; as_wide = refl; handed = omega arith; made = refl };
  kept = record { used = refl; cell = refl };
}

pub one_more_net : (m n o : Maker) (k x : ℕ) (ys zs : List RawBit) → AreNetsSoFar m n k ys → IsFree n x → o ≡ with_number n x → zs ≡ ys ++ Net x ∷ [] → AreNetsSoFar m o (k + 1) zs
one_more_net m n o k x ys zs h free step more =
    let used : o.used ≡ m.used = ap (λ (q : Maker). q.used) step ∙ h.kept.used in
    let cell : o.cell ≡ m.cell = ap (λ (q : Maker). q.cell) step ∙ h.kept.cell in
    let unused : has_number x m.used ≡ false = rw h.kept.used at free.unused in
    let next : o.next ≡ x + 1 = ap (λ (q : Maker). q.next) step in
    let numbers : RiseBetween m.used m.next (x + 1) (nets_in ys ++ x ∷ []) = rise_append m.used m.next n.next (x + 1) (nets_in ys) (x ∷ []) h.nets.numbers (free.later, unused, omega arith) in
    let split : nets_in zs ≡ nets_in ys ++ x ∷ [] = ap nets_in more ∙ nets_in-append ys (Net x ∷ []) in
    record {
      nets = record {
        numbers = rw (split, next) numbers;
        nets = ap (list_all is_net) more ∙ list_all-append is_net ys (Net x ∷ []) ∙ (cc h.nets.nets);
        as_wide = (let wide : length ys ≡ k = h.nets.as_wide in let long : length zs ≡ length (ys ++ Net x ∷ []) = ap length more in omega (arith, length-append ys (Net x ∷ [])));
        handed = (let a : o.handed ≡ n.handed + 1 = ap (λ (q : Maker). q.handed) step in let b : n.handed ≡ m.handed + k = h.nets.handed in omega arith);
        made = ap (λ (q : Maker). q.made) step ∙ h.nets.made;
      };
      kept = record { used = used; cell = cell };
    }
