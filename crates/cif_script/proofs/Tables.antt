-- The table of wires by name.
use Rattle.std.specs.Prelude.{ℕ, ◌≡◌, ◌∷◌, ◌++◌, Bool, true, false, List, [], length, bytes_eq, Option, Some, None, refl}
use Rattle.std.specs.BTreeMap as sorted
use Rattle.std.specs.Borrow.{Bor}
use Rattle.std.specs.Cmp.Lexicographic.{slice_cmp}
use Rattle.std.specs.Ordering.{nat_cmp}
use Rattle.std.proofs.Common.{sym, ap, ◌∙◌, cond}
use Rattle.std.proofs.lemmas.Map.Text.{is_eq-slice_cmp}
use Rattle.std.proofs.lemmas.Slice.Eq.{bytes_eq-Decides}
use Rattle.cif_defs.specs.declared.nets.Wire.{Wire}
use Rattle.cif_script.specs.ScriptText.{place_of}
use Rattle.cif_script.specs.Seen.{IsTable, number_under}
use Rattle.cif_script.specs.declared.wires.WireTable.{WireTable}
use Rattle.cif_script.proofs.Places.{place_after, place_push}

-- a name that some bytes are
abbrev named_by : List ℕ → Bor (List ℕ)
named_by name = record { ref_ptr = (0, 0); now = name }

after_all : (place : Option ℕ) (here : Bool) (n : ℕ) → (here ≡ true → place ≡ None) → cond here (Some n) place ≡ place_after place here n
after_all None true n h = refl
after_all None false n h = refl
after_all (Some k) false n h = refl
after_all (Some k) true n h = absurd (let e = h refl in cc)

-- a wire that isn't there comes last, under the next number
pub table_added : (old new : WireTable) (key : Bor (List ℕ)) (w : Wire) (n : ℕ) → IsTable old → key.now ≡ w.name → place_of old.wires.items w.name ≡ None → n ≡ length old.wires.items
    → sorted.Updates (λ (x y : Bor (List ℕ)). slice_cmp nat_cmp x.now y.now) old.numbers new.numbers key (Some n) → new.wires.items ≡ old.wires.items ++ w ∷ [] → IsTable new
table_added old new key w n h is none count updates wires name =
    updates.0 (named_by name)
    ∙ ap (λ b. cond b (Some n) (number_under old name)) (is_eq-slice_cmp key.now name)
    ∙ ap (λ (k : List ℕ). cond (bytes_eq k name) (Some n) (number_under old name)) is
    ∙ ap (λ k. cond (bytes_eq w.name name) (Some k) (number_under old name)) count
    ∙ ap (cond (bytes_eq w.name name) (Some (length old.wires.items))) (h name)
    ∙ after_all (place_of old.wires.items name) (bytes_eq w.name name) (length old.wires.items) (λ e. ap (place_of old.wires.items) (sym ((bytes_eq-Decides w.name name).0 e)) ∙ none)
    ∙ sym (place_push old.wires.items w name)
    ∙ ap (λ ws. place_of ws name) (sym wires)
