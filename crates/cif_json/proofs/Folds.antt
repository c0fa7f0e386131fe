-- Lists of bits, things and attributes, as a loop makes them.
use Rattle.std.specs.Prelude.{ℕ, zero, suc, ◌+◌, ◌<◌, ◌≡◌, List, [], ◌∷◌, ◌++◌, length, get_or, drop, String, string_bytes, Option, Some, None, option_map, option_and_then, Result, Ok, Err, refl}
use Rattle.std.proofs.Common.{ap, sym, ◌∙◌, arith, add-one, Global, append_assoc}
use Rattle.serde_json.specs.Data.{Data}
use Rattle.serde_json.specs.View.{view, items_view, members_view}
use Rattle.serde_json.specs.declared.value.Value.{Value}
use Rattle.cif_defs.specs.declared.raw_module.RawBit.{RawBit}
use Rattle.cif_defs.specs.declared.raw_module.RawParam.{RawParam}
use Rattle.cif_defs.specs.declared.raw_module.ParamValue.{ParamValue}
use Rattle.cif_json.specs.declared.misfit.Misfit.{Misfit}
use Rattle.cif_json.specs.declared.misfit.Misfit.TheVariants.{At, NoMemory}
use Rattle.cif_json.specs.WrongPlace.{Place, ◌and_then◌, within, each}
use Rattle.cif_json.specs.Shape.{bit_of, bits_of_items, kept, param_of}
use Rattle.cif_json.specs.Answers.{Answers}

abbrev pub Entry : Type 0
Entry = String Global × Value

-- ---- readings one after another

pub ok_then : {A B E : Type 0} (r : Result A E) (x : A) (next : A → Result B E) → r ≡ Ok x → (r and_then next) ≡ next x
ok_then r x next e = ap (λ s. s and_then next) e

pub err_then : {A B : Type 0} (m : Misfit) (r : Result A Place) (next : A → Result B Place) → Answers {A = A} (Err m) r → Answers {A = B} (Err m) (r and_then next)
err_then (At place) r next e = ap (λ s. s and_then next) e
err_then NoMemory r next e = tt

-- ---- bits

-- the bits after those that are done
abbrev pub more_bits : List RawBit → Option (List RawBit) → Option (List RawBit)
more_bits done rest = option_map (λ bs. done ++ bs) rest

next_bits : (done : List RawBit) (b : RawBit) (rest : Option (List RawBit)) → more_bits done (option_map (λ bs. b ∷ bs) rest) ≡ more_bits (done ++ b ∷ []) rest
next_bits done b None = refl
next_bits done b (Some bs) = ap Some (sym (append_assoc done (b ∷ []) bs))

bit_step_suc : (vs : List Value) (i : ℕ) (done : List RawBit) (d : Value) (b : RawBit) → i < length vs → Some b ≡ bit_of (view (get_or vs i d))
    → more_bits done (bits_of_items (items_view (drop i vs))) ≡ more_bits (done ++ b ∷ []) (bits_of_items (items_view (drop (suc i) vs)))
bit_step_suc [] i done d b h e = absurd (omega arith)
bit_step_suc (v ∷ vs) zero done d b h e =
    ap (λ found. more_bits done (option_and_then (λ x. option_map (λ bs. x ∷ bs) (bits_of_items (items_view vs))) found)) (sym e) ∙ next_bits done b (bits_of_items (items_view vs))
bit_step_suc (v ∷ vs) (suc i) done d b h e = bit_step_suc vs i done d b (omega arith) e

pub bit_step : (vs : List Value) (i : ℕ) (done : List RawBit) (d : Value) (b : RawBit) → i < length vs → Some b ≡ bit_of (view (get_or vs i d))
    → more_bits done (bits_of_items (items_view (drop i vs))) ≡ more_bits (done ++ b ∷ []) (bits_of_items (items_view (drop (i + 1) vs)))
bit_step vs i done d b h e = rw add-one (bit_step_suc vs i done d b h e)

pub no_bit : (vs : List Value) (i : ℕ) (done : List RawBit) (d : Value) → i < length vs → None ≡ bit_of (view (get_or vs i d)) → more_bits done (bits_of_items (items_view (drop i vs))) ≡ None
no_bit [] i done d h e = absurd (omega arith)
no_bit (v ∷ vs) zero done d h e =
    ap (λ found. more_bits done (option_and_then (λ x. option_map (λ bs. x ∷ bs) (bits_of_items (items_view vs))) found)) (sym e)
no_bit (v ∷ vs) (suc i) done d h e = no_bit vs i done d (omega arith) e

-- ---- things

-- the things after those that are done
abbrev pub more_things : {A : Type 0} → List A → Result (List A) Place → Result (List A) Place
more_things done rest = rest and_then (λ xs. Ok (done ++ xs))

next_things : {A : Type 0} (done : List A) (x : A) (rest : Result (List A) Place) → more_things done (rest and_then (λ xs. Ok (x ∷ xs))) ≡ more_things (done ++ x ∷ []) rest
next_things done x (Ok xs) = ap Ok (sym (append_assoc done (x ∷ []) xs))
next_things done x (Err place) = refl

pub thing_step : {A : Type 0} (read : List ℕ → Data → Result A Place) (e : Entry) (es : List Entry) (done : List A) (x : A) → within (string_bytes e.0) (read (string_bytes e.0) (view e.1)) ≡ Ok x
    → more_things done (each read (members_view (e ∷ es))) ≡ more_things (done ++ x ∷ []) (each read (members_view es))
thing_step read e es done x was =
    ap (λ r. more_things done (r and_then (λ x. each read (members_view es) and_then (λ xs. Ok (x ∷ xs))))) was ∙ next_things done x (each read (members_view es))

pub no_thing : {A : Type 0} (read : List ℕ → Data → Result A Place) (e : Entry) (es : List Entry) (done : List A) (place : Place) → within (string_bytes e.0) (read (string_bytes e.0) (view e.1)) ≡ Err place
    → more_things done (each read (members_view (e ∷ es))) ≡ Err place
no_thing read e es done place was = ap (λ r. more_things done (r and_then (λ x. each read (members_view es) and_then (λ xs. Ok (x ∷ xs))))) was

-- ---- attributes

pub kept_step : (name : List ℕ) (v : ParamValue) (done rest : List RawParam) → done ++ kept name (Some v) rest ≡ (done ++ param_of name v ∷ []) ++ rest
kept_step name v done rest = sym (append_assoc done (param_of name v ∷ []) rest)
