-- What `init` attributes give for net numbers, told digit by digit, and the words with which cells start.
use Rattle.std.specs.Prelude.{ℕ, zero, suc, ◌+◌, ◌*◌, ◌<◌, ◌≤◌, ◌≡◌, ◌⊎◌, ◌==◌, Bool, true, false, not, ◌&&◌, ◌||◌, List, [], ◌∷◌, ◌++◌, length, map, filter, fold, get_or, codes, drop, take, position, option_map, option_to_list, unwrap_or, Option, Some, None, replicate, refl, if◌then◌else◌}
use Rattle.std.specs.List.{Contains, cons_option, filter_map, flat_map, list_any}
use Rattle.std.proofs.Common.{arith, sym, ap, subst, ◌∙◌, cond, inl, inr, add-one}
use Rattle.std.proofs.lemmas.Bool.{cond-true, cond-false}
use denote.Enum.Bare.{same_true, true_same}
use Rattle.std.proofs.lemmas.List.{at_drop_more, at_drop_all, length-replicate, map-append, take_at}
use Rattle.std.proofs.lemmas.List.Sums.{fold-append}
use Rattle.cif_defs.specs.Words.{Word, bit, word}
use Rattle.cif_defs.specs.Kinds.{role_of, is_same_param}
use Rattle.cif_defs.specs.Table.{kind_of, parameters_of, is_table, is_mask}
use Rattle.cif_defs.specs.Cells.{number_in, number_of, width, state_bits, state_bits_by}
use Rattle.cif_defs.specs.RawModule.{value_named, number_given, digits_given, nets_in, net_numbers, numbers_held, operand_bits, output_bits, clock_bits}
use Rattle.cif_defs.specs.Accepted.{numbers_of, cell_by, cell_of, initial_by, initial_of, init_at, init_for_bit, init_digits, init_digits_by, init_all, initial_bit, no_bit}
use Rattle.cif_defs.specs.declared.kinds.Kind.{Kind}
use Rattle.cif_defs.specs.declared.kinds.Kind.TheVariants.{Dff, Dffe, Sdff, Sdffe, Sdffce, Adff, Adffe, Mem}
use Rattle.cif_defs.specs.declared.kinds.Param.{Param}
use Rattle.cif_defs.specs.declared.kinds.Param.TheVariants.{Width, Size, Init}
use Rattle.cif_defs.specs.contracts.kinds.Param.{the_type}
use Rattle.cif_defs.specs.declared.kinds.Role.{Role}
use Rattle.cif_defs.specs.declared.kinds.Role.TheVariants.{Combinational, PlainRegister, ResetRegister, MemoryBlock, CarriedOver}
use Rattle.cif_defs.proofs.WordLaws.{bit-word, length-word, same_words}
use Rattle.cif_defs.specs.declared.raw_module.ParamValue.{ParamValue}
use Rattle.cif_defs.specs.declared.raw_module.RawParam.{RawParam}
use Rattle.cif_defs.specs.declared.raw_module.RawBit.{RawBit}
use Rattle.cif_defs.specs.declared.raw_module.RawBit.TheVariants.{Net, Zero, One, X, Z}
use Rattle.cif_defs.specs.declared.raw_module.RawPort.{RawPort}
use Rattle.cif_defs.specs.declared.raw_module.RawCell.{RawCell}
use Rattle.cif_defs.specs.declared.raw_module.RawName.{RawName}
use Rattle.cif_defs.specs.declared.raw_module.Raw.{Raw}
use Rattle.cif_checks.specs.Checks.{◌else_by◌, fault_if, first_fault, has_number, gives_init, register_numbers, inits_fault, number_or_0}
use Rattle.cif_nets.specs.Kept.{is_kept}
use Rattle.cif_nets.specs.Told.{told, told_all}
use Rattle.cif_nets.specs.Inits.{init_more, gives, start_of, init_of, told_bit, told_bits, told_by, told_by_name, marked, named, conflict_fault, start_at, start_bit}
use Rattle.cif_checks.specs.declared.fault.BuildFault.TheVariants.{InitConflict}
use Rattle.cif_nets.specs.declared.inits.InitBit.{InitBit}
use Rattle.cif_nets.specs.declared.inits.InitBit.TheVariants.{Nothing, Digit, Both}
use Rattle.cif_nets.proofs.Places.{At, At-has, At-map, Has, Has-flat_map, Has-left, Has-right}
use Rattle.cif_nets.proofs.Rising.{IsRising, Has-rising}
use Rattle.cif_nets.proofs.Wired.{numbers_rise}
use Rattle.cif_nets.proofs.Kept.{register_is_kept}
use Rattle.cif_nets.proofs.ToldLaws.{told-append, told_all-append, told_all-nil, length-told_all}
use Rattle.cif_nets.proofs.NumberLaws.{position_found}
use Rattle.cif_nets.proofs.NetLaws.{told_all-replicate}

-- ---- digits that are given

abbrev is_digit : Bool → Bool → Bool
is_digit d e = if d then e else not e

or_false : (b : Bool) → b ≡ (b || false)
or_false true = refl
or_false false = refl

or_assoc : (a b c : Bool) → ((a || b) || c) ≡ (a || (b || c))
or_assoc true b c = refl
or_assoc false b c = refl

gives_more : (s : InitBit) (e d : Bool) → gives (init_more s e) d ≡ (gives s d || is_digit d e)
gives_more Nothing e d = refl
gives_more (Digit true) true true = refl
gives_more (Digit true) true false = refl
gives_more (Digit true) false true = refl
gives_more (Digit true) false false = refl
gives_more (Digit false) true true = refl
gives_more (Digit false) true false = refl
gives_more (Digit false) false true = refl
gives_more (Digit false) false false = refl
gives_more (Both first) e d = refl

gives_fold : (s : InitBit) (es : List Bool) (d : Bool) → gives (fold init_more s es) d ≡ (gives s d || list_any (is_digit d) es)
gives_fold s [] d = or_false (gives s d)
gives_fold s (e ∷ es) d =
    gives_fold (init_more s e) es d ∙ ap (λ b. b || list_any (is_digit d) es) (gives_more s e d) ∙ or_assoc (gives s d) (is_digit d e) (list_any (is_digit d) es)

gives_init_is : (names : List RawName) (x : ℕ) (d : Bool) → gives (init_of names x) d ≡ gives_init names x d
gives_init_is names x d = gives_fold Nothing (init_all names x) d

start_of_both : (first : Bool) (es : List Bool) → start_of (fold init_more (Both first) es) ≡ first
start_of_both first [] = refl
start_of_both first (e ∷ es) = start_of_both first es

start_of_digit : (first : Bool) (es : List Bool) → start_of (fold init_more (Digit first) es) ≡ first
start_of_digit first [] = refl
start_of_digit true (true ∷ es) = start_of_digit true es
start_of_digit true (false ∷ es) = start_of_both true es
start_of_digit false (true ∷ es) = start_of_both false es
start_of_digit false (false ∷ es) = start_of_digit false es

start_of_fold : (es : List Bool) → start_of (fold init_more Nothing es) ≡ get_or es 0 false
start_of_fold [] = refl
start_of_fold (e ∷ es) = start_of_digit e es

-- ---- digits that are told of numbers

digit_told : (s : InitBit) (o : Option Bool) (y x : ℕ) (same : Bool) → (y == x) ≡ same
    → told init_more s (map (λ d. (y, d)) (option_to_list o)) x ≡ fold init_more s (option_to_list (if same then o else None))
digit_told s None y x true e = refl
digit_told s None y x false e = refl
digit_told s (Some d) y x true e = cond-true (y == x) (init_more s d) s e
digit_told s (Some d) y x false e = cond-false (y == x) (init_more s d) s e

bit_told : (s : InitBit) (v : ParamValue) (i x : ℕ) (b : RawBit) → told init_more s (told_bit v i b) x ≡ fold init_more s (option_to_list (init_for_bit v x i b))
bit_told s v i x (Net y) = digit_told s (init_at v i) y x (y == x) refl
bit_told s v i x Zero = refl
bit_told s v i x One = refl
bit_told s v i x X = refl
bit_told s v i x Z = refl

bits_told : (s : InitBit) (v : ParamValue) (i x : ℕ) (bs : List RawBit) → told init_more s (told_bits v i bs) x ≡ fold init_more s (init_digits v x i bs)
bits_told s v i x [] = refl
bits_told s v i x (b ∷ bs) =
    told-append init_more s (told_bit v i b) (told_bits v (i + 1) bs) x
    ∙ bits_told (told init_more s (told_bit v i b) x) v (i + 1) x bs
    ∙ ap (λ t. fold init_more t (init_digits v x (i + 1) bs)) (bit_told s v i x b)
    ∙ sym (fold-append init_more s (option_to_list (init_for_bit v x i b)) (init_digits v x (i + 1) bs))

value_told : (s : InitBit) (x : ℕ) (bs : List RawBit) (o : Option ParamValue) → told init_more s (told_by bs o) x ≡ fold init_more s (init_digits_by x bs o)
value_told s x bs None = refl
value_told s x bs (Some v) = bits_told s v 0 x bs

names_told : (s : InitBit) (x : ℕ) (names : List RawName) → told init_more s (flat_map told_by_name names) x ≡ fold init_more s (init_all names x)
names_told s x [] = refl
names_told s x (n ∷ names) =
    told-append init_more s (told_by_name n) (flat_map told_by_name names) x
    ∙ names_told (told init_more s (told_by_name n) x) x names
    ∙ ap (λ t. fold init_more t (init_all names x)) (value_told s x n.bits (value_named (codes "init") n.attributes))
    ∙ sym (fold-append init_more s (init_digits_by x n.bits (value_named (codes "init") n.attributes)) (init_all names x))

-- ---- one thing of a list after another, each of which tells of some numbers

pub told_next : {S V A : Type 0} (more : S → V → S) (all : ℕ → List A → List (ℕ × V)) (each : ℕ → A → List (ℕ × V)) → ((i : ℕ) (x : A) (xs : List A) → all i (x ∷ xs) ≡ each i x ++ all (i + 1) xs)
    → (ns : List ℕ) (old new : List S) (xs : List A) (i : ℕ) (x d : A) → i < length xs → x ≡ get_or xs i d → new ≡ told_all more ns old (each i x)
    → told_all more ns new (all (i + 1) (drop (i + 1) xs)) ≡ told_all more ns old (all i (drop i xs))
told_next more all each law ns old new xs i x d l e n =
    ap (λ ss. told_all more ns ss (all (i + 1) (drop (i + 1) xs))) n
    ∙ sym (told_all-append more ns old (each i x) (all (i + 1) (drop (i + 1) xs)))
    ∙ ap (told_all more ns old) (sym (at_drop_more (all i) xs i d l ∙ law i (get_or xs i d) (drop (i + 1) xs) ∙ ap (λ y. each i y ++ all (i + 1) (drop (i + 1) xs)) (sym e)))

pub told_last : {S V A : Type 0} (more : S → V → S) (all : ℕ → List A → List (ℕ × V)) → ((i : ℕ) → all i [] ≡ []) → (ns : List ℕ) (ss rest : List S) (xs : List A) (i : ℕ) → length xs ≤ i → length ss ≡ length ns → told_all more ns ss (all i (drop i xs)) ≡ rest → ss ≡ rest
told_last more all law ns ss rest xs i l n h = sym (told_all-nil more ns ss n) ∙ sym (ap (told_all more ns ss) (at_drop_all (all i) xs i l ∙ law i)) ∙ h

pub named-append : (xs ys : List ℕ) → named (xs ++ ys) ≡ named xs ++ named ys
named-append xs ys = map-append (λ (x : ℕ). (x, tt)) xs ys

pub nets_named : (b : RawBit) (bs : List RawBit) → named (nets_in (b ∷ bs)) ≡ named (nets_in (b ∷ [])) ++ named (nets_in bs)
nets_named (Net y) bs = refl
nets_named Zero bs = refl
nets_named One bs = refl
nets_named X bs = refl
nets_named Z bs = refl

pub net_marked : (bits : List RawBit) (i x : ℕ) (d : RawBit) (ns : List ℕ) (old new : List Bool) → i < length bits → get_or bits i d ≡ Net x → new ≡ told_all marked ns old ((x, tt) ∷ [])
    → told_all marked ns new (named (nets_in (drop (i + 1) bits))) ≡ told_all marked ns old (named (nets_in (drop i bits)))
net_marked bits i x d ns old new l b n =
    told_next marked (λ _ (bs : List RawBit). named (nets_in bs)) (λ _ (c : RawBit). named (nets_in (c ∷ []))) (λ _ c bs. nets_named c bs) ns old new bits i (get_or bits i d) d l refl
    (n ∙ ap (λ (c : RawBit). told_all marked ns old (named (nets_in (c ∷ [])))) (sym b))

pub bit_step : (v : ParamValue) (bits : List RawBit) (i : ℕ) (d : RawBit) (ns : List ℕ) (old new : List InitBit) → i < length bits → new ≡ told_all init_more ns old (told_bit v i (get_or bits i d))
    → told_all init_more ns new (told_bits v (i + 1) (drop (i + 1) bits)) ≡ told_all init_more ns old (told_bits v i (drop i bits))
bit_step v bits i d ns old new l n = told_next init_more (told_bits v) (told_bit v) (λ _ _ _. refl) ns old new bits i (get_or bits i d) d l refl n

pub digit_recorded : (v : ParamValue) (i x : ℕ) (b : RawBit) (e : Bool) (ns : List ℕ) (old new : List InitBit) → b ≡ Net x → Some e ≡ init_at v i → new ≡ told_all init_more ns old ((x, e) ∷ []) → new ≡ told_all init_more ns old (told_bit v i b)
digit_recorded v i x b e ns old new n d h =
    h ∙ ap (λ (o : Option Bool). told_all init_more ns old (map (λ (c : Bool). (x, c)) (option_to_list o))) d ∙ ap (λ (c : RawBit). told_all init_more ns old (told_bit v i c)) (sym n)

pub digit_skipped : (v : ParamValue) (i x : ℕ) (b : RawBit) (ns : List ℕ) (old : List InitBit) → length old ≡ length ns → b ≡ Net x → None ≡ init_at v i → old ≡ told_all init_more ns old (told_bit v i b)
digit_skipped v i x b ns old l n d =
    sym (told_all-nil init_more ns old l)
    ∙ ap (λ (o : Option Bool). told_all init_more ns old (map (λ (c : Bool). (x, c)) (option_to_list o))) d ∙ ap (λ (c : RawBit). told_all init_more ns old (told_bit v i c)) (sym n)

pub bit_skipped : (v : ParamValue) (i : ℕ) (b : RawBit) (ns : List ℕ) (old : List InitBit) → length old ≡ length ns → ((x : ℕ) → b ≡ Net x → ⊥) → old ≡ told_all init_more ns old (told_bit v i b)
bit_skipped v i (Net y) ns old l h = absurd (h y refl)
bit_skipped v i Zero ns old l h = sym (told_all-nil init_more ns old l)
bit_skipped v i One ns old l h = sym (told_all-nil init_more ns old l)
bit_skipped v i X ns old l h = sym (told_all-nil init_more ns old l)
bit_skipped v i Z ns old l h = sym (told_all-nil init_more ns old l)

pub name_recorded : (name : RawName) (attributes : List RawParam) (bits : List RawBit) (v : ParamValue) (ns : List ℕ) (old new : List InitBit) → attributes ≡ name.attributes → bits ≡ name.bits → Some v ≡ value_named (codes "init") attributes
    → new ≡ told_all init_more ns old (told_bits v 0 bits) → new ≡ told_all init_more ns old (told_by_name name)
name_recorded name attributes bits v ns old new a b e h =
    h ∙ ap (λ (bs : List RawBit). told_all init_more ns old (told_bits v 0 bs)) b
    ∙ ap (λ (o : Option ParamValue). told_all init_more ns old (told_by name.bits o)) (e ∙ ap (value_named (codes "init")) a)

pub name_skipped : (name : RawName) (attributes : List RawParam) (ns : List ℕ) (old : List InitBit) → length old ≡ length ns → attributes ≡ name.attributes → None ≡ value_named (codes "init") attributes → old ≡ told_all init_more ns old (told_by_name name)
name_skipped name attributes ns old l a e =
    sym (told_all-nil init_more ns old l) ∙ ap (λ (o : Option ParamValue). told_all init_more ns old (told_by name.bits o)) (e ∙ ap (value_named (codes "init")) a)

-- all numbers, from none told
told_from_none : (ns : List ℕ) (names : List RawName) → told_all init_more ns (replicate (length ns) Nothing) (flat_map told_by_name names) ≡ map (init_of names) ns
told_from_none ns names = told_all-replicate init_more ns Nothing (flat_map told_by_name names) ∙ all_are ns
  where
    all_are : (ms : List ℕ) → map (told init_more Nothing (flat_map told_by_name names)) ms ≡ map (init_of names) ms
    all_are [] = refl
    all_are (m ∷ ms) = ap (λ s. s ∷ map (told init_more Nothing (flat_map told_by_name names)) ms) (names_told Nothing m names) ∙ ap (λ ss. init_of names m ∷ ss) (all_are ms)

-- a list that was written through a slice of all of it
written : {S V : Type 0} (more : S → V → S) (ns : List ℕ) (items first one : List S) (s : S) (n : ℕ) (ts : List (ℕ × V)) → items ≡ replicate (length ns) s → n ≡ length items → first ≡ items → one ≡ told_all more ns first ts
    → take n (one ++ drop (length one) items) ≡ told_all more ns (replicate (length ns) s) ts
written more ns items first one s n ts e l f o =
    let count : length items ≡ length ns = ap length e ∙ length-replicate (length ns) s in
    let one_count : length one ≡ length ns = ap length o ∙ length-told_all more ns first ts (ap length f ∙ count) in
    take_at one (drop (length one) items) n (one_count ∙ sym count ∙ sym l) ∙ o ∙ ap (λ ss. told_all more ns ss ts) (f ∙ e)

pub all_inits_written : (ns : List ℕ) (items first one : List InitBit) (n : ℕ) (names : List RawName) → items ≡ replicate (length ns) Nothing → n ≡ length items → first ≡ items → one ≡ told_all init_more ns first (flat_map told_by_name names)
    → take n (one ++ drop (length one) items) ≡ map (init_of names) ns
all_inits_written ns items first one n names e l f o = written init_more ns items first one Nothing n (flat_map told_by_name names) e l f o ∙ told_from_none ns names

-- ---- marks

mark_told : (b : Bool) (xs : List ℕ) (x : ℕ) → told marked b (named xs) x ≡ (b || has_number x xs)
mark_told b [] x = or_false b
mark_told b (y ∷ ys) x = mark_told (if y == x then true else b) ys x ∙ ap (λ c. c || has_number x ys) (chosen (y == x) b) ∙ or_assoc b (y == x) (has_number x ys)
  where
    chosen : (c d : Bool) → (if c then true else d) ≡ (d || c)
    chosen true true = refl
    chosen true false = refl
    chosen false true = refl
    chosen false false = refl

pub all_marks_written : (ns xs : List ℕ) (items first one : List Bool) (n : ℕ) → items ≡ replicate (length ns) false → n ≡ length items → first ≡ items → one ≡ told_all marked ns first (named xs)
    → take n (one ++ drop (length one) items) ≡ map (λ x. has_number x xs) ns
all_marks_written ns xs items first one n e l f o =
    written marked ns items first one false n (named xs) e l f o ∙ told_all-replicate marked ns false (named xs) ∙ all_are ns
  where
    all_are : (ms : List ℕ) → map (told marked false (named xs)) ms ≡ map (λ x. has_number x xs) ms
    all_are [] = refl
    all_are (m ∷ ms) = ap (λ b. b ∷ map (told marked false (named xs)) ms) (mark_told false xs m) ∙ ap (λ bs. has_number m xs ∷ bs) (all_are ms)

-- ---- conflicts

and_assoc : (a b c : Bool) → (a && (b && c)) ≡ ((a && b) && c)
and_assoc true b c = refl
and_assoc false b c = refl

conflicts_are : (xs : List ℕ) (names : List RawName) (ns : List ℕ)
    → conflict_fault ns (map (λ x. has_number x xs) ns) (map (init_of names) ns) ≡ first_fault (λ x. fault_if (has_number x xs && gives_init names x false && gives_init names x true) (InitConflict x)) ns
conflicts_are xs names [] = refl
conflicts_are xs names (n ∷ ns) =
    let rest = conflict_fault ns (map (λ x. has_number x xs) ns) (map (init_of names) ns) in
    ap (λ (b : Bool). fault_if (has_number n xs && (b && gives (init_of names n) true)) (InitConflict n) else_by rest) (gives_init_is names n false)
    ∙ ap (λ (b : Bool). fault_if (has_number n xs && (gives_init names n false && b)) (InitConflict n) else_by rest) (gives_init_is names n true)
    ∙ ap (λ (b : Bool). fault_if b (InitConflict n) else_by rest) (and_assoc (has_number n xs) (gives_init names n false) (gives_init names n true))
    ∙ ap (λ o. fault_if (has_number n xs && gives_init names n false && gives_init names n true) (InitConflict n) else_by o) (conflicts_are xs names ns)

pub inits_checked : (raw : Raw) (ns : List ℕ) (marks : List Bool) (inits : List InitBit) → ns ≡ net_numbers raw → marks ≡ map (λ x. has_number x (register_numbers raw)) ns → inits ≡ map (init_of raw.names) ns
    → conflict_fault ns marks inits ≡ inits_fault raw
unfolding inits_fault
inits_checked raw ns marks inits e m i =
    ap (λ ms. conflict_fault ns ms inits) m ∙ ap (conflict_fault ns (map (λ x. has_number x (register_numbers raw)) ns)) i
    ∙ conflicts_are (register_numbers raw) raw.names ns
    ∙ ap (first_fault (λ x. fault_if (has_number x (register_numbers raw) && gives_init raw.names x false && gives_init raw.names x true) (InitConflict x))) e

conflict_suc : (ns : List ℕ) (ms : List Bool) (is : List InitBit) (i : ℕ) (m' : Bool) (d : InitBit) → i < length ns → length ms ≡ length ns → length is ≡ length ns
    → (get_or ms i m' && (gives (get_or is i d) false && gives (get_or is i d) true)) ≡ false → conflict_fault (drop (suc i) ns) (drop (suc i) ms) (drop (suc i) is) ≡ conflict_fault (drop i ns) (drop i ms) (drop i is)
conflict_suc [] ms is i m' d l e f h = absurd (omega arith)
conflict_suc (n ∷ ns) [] is i m' d l e f h = absurd (omega arith)
conflict_suc (n ∷ ns) (m ∷ ms) [] i m' d l e f h = absurd (omega arith)
conflict_suc (n ∷ ns) (m ∷ ms) (s ∷ ss) zero m' d l e f h = sym (ap (λ (b : Bool). fault_if b (InitConflict n) else_by conflict_fault ns ms ss) h)
conflict_suc (n ∷ ns) (m ∷ ms) (s ∷ ss) (suc i) m' d l e f h = conflict_suc ns ms ss i m' d (omega arith) (omega arith) (omega arith) h

pub conflict_step : (ns : List ℕ) (ms : List Bool) (is : List InitBit) (i : ℕ) (m' : Bool) (d : InitBit) → i < length ns → length ms ≡ length ns → length is ≡ length ns
    → (get_or ms i m' && (gives (get_or is i d) false && gives (get_or is i d) true)) ≡ false → conflict_fault (drop (i + 1) ns) (drop (i + 1) ms) (drop (i + 1) is) ≡ conflict_fault (drop i ns) (drop i ms) (drop i is)
conflict_step ns ms is i m' d l e f h = rw (add-one) (conflict_suc ns ms is i m' d l e f h)

pub not_conflict : (a b : Bool) → b ≡ false → (a && b) ≡ false
not_conflict true b e = e
not_conflict false b e = refl

pub not_marked : (a b : Bool) → a ≡ false → (a && b) ≡ false
not_marked a b e = ap (λ (c : Bool). c && b) e

-- ---- register bits

at_here : {A : Type 0} (xs : List A) (i : ℕ) (d : A) → i < length xs → At xs i (get_or xs i d)
at_here [] i d l = absurd (omega arith)
at_here (x ∷ xs) zero d l = refl
at_here (x ∷ xs) (suc i) d l = at_here xs i d (omega arith)

output_is_number : (raw : Raw) (cell : RawCell) (x : ℕ) → Contains raw.cells cell → Has (nets_in (output_bits cell)) x → Has (net_numbers raw) x
unfolding net_numbers
output_is_number raw cell x one h =
    let ports = flat_map (λ (p : RawPort). nets_in p.bits) raw.ports in
    let all : Has (nets_in (operand_bits cell) ++ nets_in (output_bits cell) ++ nets_in (clock_bits cell)) x =
    Has-left (nets_in (operand_bits cell) ++ nets_in (output_bits cell)) (nets_in (clock_bits cell)) x (Has-right (nets_in (operand_bits cell)) (nets_in (output_bits cell)) x h) in
    let P : RawCell → Type 0 = λ c. At raw.cells one.0 c in
    let at : At raw.cells one.0 cell = subst P one.2 (at_here raw.cells one.0 cell one.1) in
    Has-rising (numbers_held raw) x
    (Has-right ports (flat_map (λ (c : RawCell). nets_in (operand_bits c) ++ nets_in (output_bits c) ++ nets_in (clock_bits c)) raw.cells) x
    (Has-flat_map (λ (c : RawCell). nets_in (operand_bits c) ++ nets_in (output_bits c) ++ nets_in (clock_bits c)) raw.cells one.0 cell x at all))

number_starts : (names : List RawName) (ns : List ℕ) (y : ℕ) → IsRising ns → Has ns y → start_at (map (init_of names) ns) (position (λ n. n == y) ns) ≡ get_or (init_all names y) 0 false
number_starts names ns y r h =
    let at = At-has ns y h in
    ap (start_at (map (init_of names) ns)) (position_found ns at.0 y r at.1) ∙ ap start_of (At-map (init_of names) ns at.0 y Nothing at.1) ∙ start_of_fold (init_all names y)

bits_start : (names : List RawName) (ns : List ℕ) → IsRising ns → (bits : List RawBit) → ((x : ℕ) → Has (nets_in bits) x → Has ns x) → (i : ℕ)
    → start_bit ns (map (init_of names) ns) (get_or bits i no_bit) ≡ initial_bit names (get_or bits i no_bit)
bits_start names ns r [] law i = refl
bits_start names ns r (Net y ∷ bits) law zero = number_starts names ns y r (law y (inl refl))
bits_start names ns r (Zero ∷ bits) law zero = refl
bits_start names ns r (One ∷ bits) law zero = refl
bits_start names ns r (X ∷ bits) law zero = refl
bits_start names ns r (Z ∷ bits) law zero = refl
bits_start names ns r (Net y ∷ bits) law (suc i) = bits_start names ns r bits (λ x h. law x (inr h)) i
bits_start names ns r (Zero ∷ bits) law (suc i) = bits_start names ns r bits law i
bits_start names ns r (One ∷ bits) law (suc i) = bits_start names ns r bits law i
bits_start names ns r (X ∷ bits) law (suc i) = bits_start names ns r bits law i
bits_start names ns r (Z ∷ bits) law (suc i) = bits_start names ns r bits law i

output_starts : (raw : Raw) (ns : List ℕ) (inits : List InitBit) (cell : RawCell) (i : ℕ) → ns ≡ net_numbers raw → inits ≡ map (init_of raw.names) ns → Contains raw.cells cell
    → start_bit ns inits (get_or (output_bits cell) i no_bit) ≡ initial_bit raw.names (get_or (output_bits cell) i no_bit)
output_starts raw ns inits cell i e f one =
    ap (λ ss. start_bit ns ss (get_or (output_bits cell) i no_bit)) f
    ∙ ap (λ (ms : List ℕ). start_bit ms (map (init_of raw.names) ms) (get_or (output_bits cell) i no_bit)) e
    ∙ bits_start raw.names (net_numbers raw) (numbers_rise raw) (output_bits cell) (λ x h. output_is_number raw cell x one h) i

-- ---- numbers that a cell of a kind is asked for

abbrev pub is_plain : Param → Bool
is_plain p = not (is_table p) && not (is_mask p)

abbrev given_as : RawCell → Param → Option (Param × ℕ)
given_as cell p = option_map (λ (x : ℕ). (p, x)) (number_given cell p)

abbrev pub is_among : Param → List Param → Bool
is_among p ps = list_any (λ q. is_same_param q p) ps

same_param : (p q : Param) → is_same_param p q ≡ true → p ≡ q
same_param p q e = same_true the_type tt p q e

param_self : (p : Param) → is_same_param p p ≡ true
param_self p = true_same the_type p p refl

same_both : (b : Bool) (x : ℕ) → (if b then x else x) ≡ x
same_both true x = refl
same_both false x = refl

self_number : (p : Param) (o : Option ℕ) (rest : List (Param × ℕ)) (b : Bool) → number_in rest p ≡ (if b then unwrap_or o 0 else 0) → number_in (cons_option (option_map (λ (x : ℕ). (p, x)) o) rest) p ≡ unwrap_or o 0
self_number p None rest b h = h ∙ same_both b 0
self_number p (Some x) rest b h = ap (λ (c : Bool). cond c x (number_in rest p)) (param_self p)

other_number : (p q : Param) (o : Option ℕ) (rest : List (Param × ℕ)) → is_same_param q p ≡ false → number_in (cons_option (option_map (λ (x : ℕ). (q, x)) o) rest) p ≡ number_in rest p
other_number p q None rest e = refl
other_number p q (Some x) rest e = ap (λ (c : Bool). cond c x (number_in rest p)) e

other_passed : (cell : RawCell) (p q : Param) (ps : List Param) (b : Bool) → is_same_param q p ≡ false → number_in (filter_map (given_as cell) (cond b (q ∷ filter is_plain ps) (filter is_plain ps))) p ≡ number_in (numbers_of cell ps) p
other_passed cell p q ps true e = other_number p q (number_given cell q) (numbers_of cell ps) e
other_passed cell p q ps false e = refl

number_by_first : (cell : RawCell) (p q : Param) (ps : List Param) (same : Bool) → is_same_param q p ≡ same → is_plain p ≡ true → number_in (numbers_of cell ps) p ≡ (if is_among p ps then number_or_0 cell p else 0)
    → number_in (numbers_of cell (q ∷ ps)) p ≡ (if is_among p (q ∷ ps) then number_or_0 cell p else 0)
number_by_first cell p q ps true e plain rest =
    let P : Param → Type 0 = λ r. number_in (numbers_of cell (r ∷ ps)) p ≡ (if is_among p (r ∷ ps) then number_or_0 cell p else 0) in
    subst P (sym (same_param q p e))
    (ap (λ (b : Bool). number_in (filter_map (given_as cell) (cond b (p ∷ filter is_plain ps) (filter is_plain ps))) p) plain
    ∙ self_number p (number_given cell p) (numbers_of cell ps) (is_among p ps) rest
    ∙ sym (ap (λ (b : Bool). if b || is_among p ps then number_or_0 cell p else 0) (param_self p)))
number_by_first cell p q ps false e plain rest =
    other_passed cell p q ps (is_plain q) e ∙ rest ∙ sym (ap (λ (b : Bool). if b || is_among p ps then number_or_0 cell p else 0) e)

pub number_is : (cell : RawCell) (p : Param) (ps : List Param) → is_plain p ≡ true → number_in (numbers_of cell ps) p ≡ (if is_among p ps then number_or_0 cell p else 0)
number_is cell p [] plain = refl
number_is cell p (q ∷ ps) plain = number_by_first cell p q ps (is_same_param q p) refl plain (number_is cell p ps plain)

has_width : (k : Kind) → is_kept (role_of k) ≡ true → is_among Width (parameters_of k) ≡ true
unfolding parameters_of
has_width Dff e = refl
has_width Dffe e = refl
has_width Sdff e = refl
has_width Sdffe e = refl
has_width Sdffce e = refl
has_width Adff e = refl
has_width Adffe e = refl
has_width Mem e = refl
has_width _ e = absurd (cc)

has_size : (k : Kind) → role_of k ≡ MemoryBlock → is_among Size (parameters_of k) ≡ true
unfolding parameters_of
has_size Mem e = refl
has_size _ e = absurd (cc)

width_is : (ns : List ℕ) (cell : RawCell) (k : Kind) → is_kept (role_of k) ≡ true → width (cell_by ns cell (Some k)) ≡ number_or_0 cell Width
width_is ns cell k e = number_is cell Width (parameters_of k) refl ∙ ap (λ (b : Bool). if b then number_or_0 cell Width else 0) (has_width k e)

size_is : (ns : List ℕ) (cell : RawCell) (k : Kind) → role_of k ≡ MemoryBlock → number_of (cell_by ns cell (Some k)) Size ≡ number_or_0 cell Size
size_is ns cell k e = number_is cell Size (parameters_of k) refl ∙ ap (λ (b : Bool). if b then number_or_0 cell Size else 0) (has_size k e)

-- ---- words

word_same : (n m : ℕ) (f g : ℕ → Bool) → n ≡ m → ((i : ℕ) → f i ≡ g i) → word n f ≡ word m g
word_same n m f g e h =
    ap (λ (k : ℕ). word k f) e
    ∙ same_words (word m f) (word m g) (length-word m f ∙ sym (length-word m g))
    (λ i l. let below : i < m = (let k : length (word m f) ≡ m = length-word m f in omega arith) in bit-word m f i false below ∙ h i ∙ sym (bit-word m g i false below))

-- by the role of a cell's kind
by_role : (names : List RawName) (ns : List ℕ) (cell : RawCell) (k : Kind) (role : Role) → kind_of cell.kind ≡ Some k → role_of k ≡ role → initial_by names cell (cell_by ns cell (Some k)) role ≡ initial_of ns names cell
unfolding initial_of cell_of
by_role names ns cell k role is e =
    ap (initial_by names cell (cell_by ns cell (Some k))) (sym e)
    ∙ ap (λ (o : Option Kind). initial_by names cell (cell_by ns cell o) (role_of (cell_by ns cell o).kind)) (sym is)

register_by_role : (raw : Raw) (ns : List ℕ) (inits : List InitBit) (cell : RawCell) (k : Kind) (found : Role) → (found ≡ PlainRegister) ⊎ (found ≡ ResetRegister) → found ≡ role_of k
    → kind_of cell.kind ≡ Some k → word (width (cell_by ns cell (Some k))) (λ i. initial_bit raw.names (get_or (output_bits cell) i no_bit)) ≡ initial_of ns raw.names cell
register_by_role raw ns inits cell k found (inl e) f is = by_role raw.names ns cell k PlainRegister is (sym f ∙ e)
register_by_role raw ns inits cell k found (inr e) f is = by_role raw.names ns cell k ResetRegister is (sym f ∙ e)

pub register_starts : (raw : Raw) (ns : List ℕ) (inits : List InitBit) (cell : RawCell) (k : Kind) (found : Role) (bits : List RawBit) (n : ℕ) (v : Word) → ns ≡ net_numbers raw → inits ≡ map (init_of raw.names) ns → kind_of cell.kind ≡ Some k → Contains raw.cells cell
    → (found ≡ PlainRegister) ⊎ (found ≡ ResetRegister) → found ≡ role_of k → bits ≡ output_bits cell → n ≡ number_or_0 cell Width → v ≡ word n (λ i. start_bit ns inits (get_or bits i no_bit)) → v ≡ initial_of ns raw.names cell
register_starts raw ns inits cell k found bits n v e f is one r s b w h =
    h ∙ ap (λ (bs : List RawBit). word n (λ i. start_bit ns inits (get_or bs i no_bit))) b
    ∙ word_same n (width (cell_by ns cell (Some k))) (λ i. start_bit ns inits (get_or (output_bits cell) i no_bit)) (λ i. initial_bit raw.names (get_or (output_bits cell) i no_bit))
    (w ∙ sym (width_is ns cell k (register_is_kept found k r s))) (λ i. output_starts raw ns inits cell i e f one)
    ∙ register_by_role raw ns inits cell k found r s is

pub memory_starts : (names : List RawName) (ns : List ℕ) (cell : RawCell) (k : Kind) (found : Role) (size wide n : ℕ) (v : Word) → kind_of cell.kind ≡ Some k → found ≡ MemoryBlock → found ≡ role_of k → size ≡ number_or_0 cell Size → wide ≡ number_or_0 cell Width → n ≡ size * wide
    → v ≡ word n (λ i. bit (digits_given cell Init) i) → v ≡ initial_of ns names cell
memory_starts names ns cell k found size wide n v is r s a b e h =
    let role : role_of k ≡ MemoryBlock = sym s ∙ r in
    let c = cell_by ns cell (Some k) in
    let bits : n ≡ number_of c Size * width c = e ∙ ap (λ (m : ℕ). m * wide) (a ∙ sym (size_is ns cell k role)) ∙ ap (λ (m : ℕ). number_of c Size * m) (b ∙ sym (width_is ns cell k (ap is_kept role))) in
    let stored : number_of c Size * width c ≡ state_bits c = sym (ap (λ (q : Role). state_bits_by q c) role) in
    h ∙ ap (λ (m : ℕ). word m (λ i. bit (digits_given cell Init) i)) (bits ∙ stored) ∙ by_role names ns cell k MemoryBlock is role

pub others_start : (names : List RawName) (ns : List ℕ) (cell : RawCell) (k : Kind) (found : Role) → (found ≡ Combinational) ⊎ (found ≡ CarriedOver) → found ≡ role_of k → kind_of cell.kind ≡ Some k → [] ≡ initial_of ns names cell
others_start names ns cell k found (inl e) s is = by_role names ns cell k Combinational is (sym s ∙ e)
others_start names ns cell k found (inr e) s is = by_role names ns cell k CarriedOver is (sym s ∙ e)

pub unknown_starts : (names : List RawName) (ns : List ℕ) (cell : RawCell) (text : List ℕ) → None ≡ kind_of text → text ≡ cell.kind → [] ≡ initial_of ns names cell
unfolding initial_of cell_of
unknown_starts names ns cell text e t = ap (λ (o : Option Kind). initial_by names cell (cell_by ns cell o) (role_of (cell_by ns cell o).kind)) (e ∙ ap kind_of t)
