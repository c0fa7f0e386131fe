-- What drives net numbers, recorded one bit after another.
use Rattle.std.specs.Prelude.{ℕ, suc, ◌+◌, ◌/◌, ◌%◌, ◌⊎◌, ◌<◌, ◌≤◌, ◌≡◌, Bool, true, false, List, [], ◌∷◌, ◌++◌, length, get_or, map, filter, drop, Some, None, refl}
use Rattle.std.proofs.Common.{arith, sym, ap, ◌∙◌, inl, inr}
use Rattle.std.proofs.lemmas.Bool.{cond-true, cond-false}
use Rattle.std.proofs.lemmas.List.{at_drop_more, at_drop_all}
use Rattle.cif_defs.specs.Accepted.{driven_by_inputs, driven_by_kind, driven_by_outputs, driven_by_role, driven_from, is_input}
use Rattle.cif_defs.specs.RawModule.{output_bits, port_bits}
use Rattle.cif_defs.specs.declared.kinds.Role.{Role}
use Rattle.cif_defs.specs.declared.kinds.Role.TheVariants.{Combinational, PlainRegister, ResetRegister, MemoryBlock, CarriedOver}
use Rattle.cif_defs.specs.declared.kinds.Param.TheVariants.{Width}
use Rattle.cif_defs.specs.declared.nets.Driver.TheVariants.{Input, Register, Read}
use Rattle.cif_defs.specs.declared.raw_module.RawPort.{RawPort}
use Rattle.cif_checks.specs.Checks.{number_or_0}
use Rattle.cif_defs.specs.Kinds.{role_of}
use Rattle.cif_defs.specs.Table.{kind_of, outputs_of}
use Rattle.cif_defs.specs.declared.kinds.Kind.{Kind}
use Rattle.cif_defs.specs.declared.raw_module.RawCell.{RawCell}
use Rattle.cif_defs.specs.declared.nets.Driver.{Driver}
use Rattle.cif_defs.specs.declared.raw_module.RawBit.{RawBit}
use Rattle.cif_defs.specs.declared.raw_module.RawBit.TheVariants.{Net, Zero, One as OneBit, X, Z}
use Rattle.cif_nets.specs.Told.{told_all}
use Rattle.cif_nets.proofs.ToldLaws.{told_all-append, told_all-nil}

-- ---- bits in a row

pub bit_recorded : {S : Type 0} (more : S → Driver → S) (f : ℕ → Driver) (bits : List RawBit) (i x : ℕ) (d : RawBit) (ns : List ℕ) (old new : List S) (e : Driver) → i < length bits → get_or bits i d ≡ Net x → e ≡ f i → new ≡ told_all more ns old ((x, e) ∷ [])
    → told_all more ns new (driven_from f (i + 1) (drop (i + 1) bits)) ≡ told_all more ns old (driven_from f i (drop i bits))
bit_recorded more f bits i x d ns old new e l b g n =
    ap (λ ss. told_all more ns ss (driven_from f (i + 1) (drop (i + 1) bits))) (n ∙ ap (λ v. told_all more ns old ((x, v) ∷ [])) g)
    ∙ sym (ap (told_all more ns old) (at_drop_more (driven_from f i) bits i d l ∙ ap (λ c. driven_from f i (c ∷ drop (i + 1) bits)) b) ∙ told_all-append more ns old ((x, f i) ∷ []) (driven_from f (i + 1) (drop (i + 1) bits)))

no_net_driven : (f : ℕ → Driver) (i : ℕ) (b : RawBit) (rest : List RawBit) → ((x : ℕ) → b ≡ Net x → ⊥) → driven_from f i (b ∷ rest) ≡ driven_from f (i + 1) rest
no_net_driven f i (Net x) rest h = absurd (h x refl)
no_net_driven f i Zero rest h = refl
no_net_driven f i OneBit rest h = refl
no_net_driven f i X rest h = refl
no_net_driven f i Z rest h = refl

pub bit_skipped : (f : ℕ → Driver) (bits : List RawBit) (i : ℕ) (d : RawBit) → i < length bits → ((x : ℕ) → get_or bits i d ≡ Net x → ⊥) → driven_from f (i + 1) (drop (i + 1) bits) ≡ driven_from f i (drop i bits)
bit_skipped f bits i d l h = sym (at_drop_more (driven_from f i) bits i d l ∙ no_net_driven f i (get_or bits i d) (drop (i + 1) bits) h)

pub bits_recorded : {S : Type 0} (more : S → Driver → S) (f : ℕ → Driver) (bits : List RawBit) (i : ℕ) (ns : List ℕ) (ss all : List S) → length bits ≤ i → length ss ≡ length ns → told_all more ns ss (driven_from f i (drop i bits)) ≡ all → ss ≡ all
bits_recorded more f bits i ns ss all l n h = sym (told_all-nil more ns ss n) ∙ sym (ap (told_all more ns ss) (at_drop_all (driven_from f i) bits i l)) ∙ h

-- ---- one thing of a list after another, each of which drives some bits

pub told_step : {S A : Type 0} (more : S → Driver → S) (all : ℕ → List A → List (ℕ × Driver)) (each : ℕ → A → List (ℕ × Driver)) → ((i : ℕ) (x : A) (xs : List A) → all i (x ∷ xs) ≡ each i x ++ all (i + 1) xs)
    → (ns : List ℕ) (old new : List S) (xs : List A) (i : ℕ) (x d : A) → i < length xs → x ≡ get_or xs i d → new ≡ told_all more ns old (each i x)
    → told_all more ns new (all (i + 1) (drop (i + 1) xs)) ≡ told_all more ns old (all i (drop i xs))
told_step more all each law ns old new xs i x d l e n =
    ap (λ ss. told_all more ns ss (all (i + 1) (drop (i + 1) xs))) n
    ∙ sym (told_all-append more ns old (each i x) (all (i + 1) (drop (i + 1) xs)))
    ∙ ap (told_all more ns old) (sym (at_drop_more (all i) xs i d l ∙ law i (get_or xs i d) (drop (i + 1) xs) ∙ ap (λ y. each i y ++ all (i + 1) (drop (i + 1) xs)) (sym e)))

pub told_done : {S A : Type 0} (more : S → Driver → S) (all : ℕ → List A → List (ℕ × Driver)) → ((i : ℕ) → all i [] ≡ []) → (ns : List ℕ) (ss rest : List S) (xs : List A) (i : ℕ) → length xs ≤ i → length ss ≡ length ns → told_all more ns ss (all i (drop i xs)) ≡ rest → ss ≡ rest
told_done more all law ns ss rest xs i l n h = sym (told_all-nil more ns ss n) ∙ sym (ap (told_all more ns ss) (at_drop_all (all i) xs i l ∙ law i)) ∙ h

-- ---- cells by their kind

pub cell_recorded : {S : Type 0} (more : S → Driver → S) (ns : List ℕ) (old new : List S) (c : ℕ) (cell : RawCell) (text : List ℕ) (k : Kind) → Some k ≡ kind_of text → text ≡ cell.kind → new ≡ told_all more ns old (driven_by_role c (role_of k) cell k)
    → new ≡ told_all more ns old (driven_by_kind c cell (kind_of cell.kind))
cell_recorded more ns old new c cell text k e t n = n ∙ ap (λ o. told_all more ns old (driven_by_kind c cell o)) (e ∙ ap kind_of t)

pub cell_unknown : {S : Type 0} (more : S → Driver → S) (ns : List ℕ) (old : List S) (c : ℕ) (cell : RawCell) (text : List ℕ) → length old ≡ length ns → None ≡ kind_of text → text ≡ cell.kind → old ≡ told_all more ns old (driven_by_kind c cell (kind_of cell.kind))
cell_unknown more ns old c cell text n e t = sym (told_all-nil more ns old n) ∙ ap (λ o. told_all more ns old (driven_by_kind c cell o)) (e ∙ ap kind_of t)

pub register_recorded : {S : Type 0} (more : S → Driver → S) (ns : List ℕ) (old new : List S) (c : ℕ) (found role : Role) (cell : RawCell) (k : Kind) (bits : List RawBit) → (found ≡ PlainRegister) ⊎ (found ≡ ResetRegister) → found ≡ role → bits ≡ output_bits cell
    → new ≡ told_all more ns old (driven_from (Register c) 0 bits) → new ≡ told_all more ns old (driven_by_role c role cell k)
register_recorded more ns old new c found role cell k bits (inl e) f b n =
    n ∙ ap (λ bs. told_all more ns old (driven_from (Register c) 0 bs)) b ∙ ap (λ r. told_all more ns old (driven_by_role c r cell k)) (sym e ∙ f)
register_recorded more ns old new c found role cell k bits (inr e) f b n =
    n ∙ ap (λ bs. told_all more ns old (driven_from (Register c) 0 bs)) b ∙ ap (λ r. told_all more ns old (driven_by_role c r cell k)) (sym e ∙ f)

pub memory_recorded : {S : Type 0} (more : S → Driver → S) (ns : List ℕ) (old new : List S) (c w : ℕ) (found role : Role) (cell : RawCell) (k : Kind) (bits : List RawBit) → found ≡ MemoryBlock → found ≡ role → w ≡ number_or_0 cell Width → bits ≡ output_bits cell
    → new ≡ told_all more ns old (driven_from (λ i. Read c (i / w) (i % w)) 0 bits) → new ≡ told_all more ns old (driven_by_role c role cell k)
memory_recorded more ns old new c w found role cell k bits e f s b n =
    n ∙ ap (λ bs. told_all more ns old (driven_from (λ i. Read c (i / w) (i % w)) 0 bs)) b
    ∙ ap (λ (v : ℕ). told_all more ns old (driven_from (λ i. Read c (i / v) (i % v)) 0 (output_bits cell))) s
    ∙ ap (λ r. told_all more ns old (driven_by_role c r cell k)) (sym e ∙ f)

pub ports_recorded : {S : Type 0} (more : S → Driver → S) (ns : List ℕ) (old new : List S) (c : ℕ) (found role : Role) (cell : RawCell) (k : Kind) (ports : List (List RawBit)) → found ≡ Combinational → found ≡ role → ports ≡ map (port_bits cell) (outputs_of k)
    → new ≡ told_all more ns old (driven_by_outputs c 0 ports) → new ≡ told_all more ns old (driven_by_role c role cell k)
ports_recorded more ns old new c found role cell k ports e f r n =
    n ∙ ap (λ ps. told_all more ns old (driven_by_outputs c 0 ps)) r ∙ ap (λ r. told_all more ns old (driven_by_role c r cell k)) (sym e ∙ f)

pub carried_recorded : {S : Type 0} (more : S → Driver → S) (ns : List ℕ) (old : List S) (c : ℕ) (found role : Role) (cell : RawCell) (k : Kind) → length old ≡ length ns → found ≡ CarriedOver → found ≡ role → old ≡ told_all more ns old (driven_by_role c role cell k)
carried_recorded more ns old c found role cell k n e f = sym (told_all-nil more ns old n) ∙ ap (λ r. told_all more ns old (driven_by_role c r cell k)) (sym e ∙ f)

-- ---- input ports

pub filter_here : {A : Type 0} (p : A → Bool) (xs : List A) (i : ℕ) (x d : A) → i < length xs → x ≡ get_or xs i d → p x ≡ true → filter p (drop i xs) ≡ x ∷ filter p (drop (i + 1) xs)
filter_here p xs i x d l e t = at_drop_more (filter p) xs i d l ∙ ap (λ y. filter p (y ∷ drop (i + 1) xs)) (sym e) ∙ cond-true (p x) (x ∷ filter p (drop (i + 1) xs)) (filter p (drop (i + 1) xs)) t

pub filter_past : {A : Type 0} (p : A → Bool) (xs : List A) (i : ℕ) (x d : A) → i < length xs → x ≡ get_or xs i d → p x ≡ false → filter p (drop i xs) ≡ filter p (drop (i + 1) xs)
filter_past p xs i x d l e t = at_drop_more (filter p) xs i d l ∙ ap (λ y. filter p (y ∷ drop (i + 1) xs)) (sym e) ∙ cond-false (p x) (x ∷ filter p (drop (i + 1) xs)) (filter p (drop (i + 1) xs)) t

pub input_recorded : {S : Type 0} (more : S → Driver → S) (ns : List ℕ) (old new : List S) (ports : List RawPort) (i : ℕ) (p d : RawPort) (k m : ℕ) (bits : List RawBit) → i < length ports → p ≡ get_or ports i d → is_input p ≡ true → bits ≡ p.bits → m ≡ k + 1
    → new ≡ told_all more ns old (driven_from (Input k) 0 bits) → told_all more ns new (driven_by_inputs m (filter is_input (drop (i + 1) ports))) ≡ told_all more ns old (driven_by_inputs k (filter is_input (drop i ports)))
input_recorded more ns old new ports i p d k m bits l e t b s n =
    ap (λ ss. told_all more ns ss (driven_by_inputs m (filter is_input (drop (i + 1) ports)))) (n ∙ ap (λ bs. told_all more ns old (driven_from (Input k) 0 bs)) b)
    ∙ ap (λ (j : ℕ). told_all more ns (told_all more ns old (driven_from (Input k) 0 p.bits)) (driven_by_inputs j (filter is_input (drop (i + 1) ports)))) s
    ∙ sym (told_all-append more ns old (driven_from (Input k) 0 p.bits) (driven_by_inputs (k + 1) (filter is_input (drop (i + 1) ports))))
    ∙ sym (ap (λ ps. told_all more ns old (driven_by_inputs k ps)) (filter_here is_input ports i p d l e t))

pub input_counted : (ports : List RawPort) (i : ℕ) (p d : RawPort) (k m n : ℕ) → i < length ports → p ≡ get_or ports i d → is_input p ≡ true → m ≡ k + 1 → k + length (filter is_input (drop i ports)) ≡ n → m + length (filter is_input (drop (i + 1) ports)) ≡ n
input_counted ports i p d k m n l e t s h = (let f : length (filter is_input (drop i ports)) ≡ suc (length (filter is_input (drop (i + 1) ports))) = ap length (filter_here is_input ports i p d l e t) in omega arith)

pub inputs_done : {S : Type 0} (more : S → Driver → S) (ns : List ℕ) (ss rest : List S) (ports : List RawPort) (i k : ℕ) → length ports ≤ i → length ss ≡ length ns → told_all more ns ss (driven_by_inputs k (filter is_input (drop i ports))) ≡ rest → ss ≡ rest
inputs_done more ns ss rest ports i k l n h = sym (told_all-nil more ns ss n) ∙ sym (ap (told_all more ns ss) (at_drop_all (λ ps. driven_by_inputs k (filter is_input ps)) ports i l)) ∙ h
