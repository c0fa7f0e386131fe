-- What a raw cell computes doesn't depend on the net numbers that its nets are placed among.
use Rattle.std.specs.Prelude.{ℕ, ◌-◌, ◌≡◌, Bool, true, false, List, [], ◌∷◌, ◌++◌, length, take, bytes_eq, Option, Some, None, refl, if◌then◌else◌}
use Rattle.std.proofs.Common.{sym, ap, ◌∙◌}
use Rattle.cif_defs.specs.Words.{Word, bit, word, operand}
use Rattle.cif_defs.specs.Kinds.{is_coarse, role_of}
use Rattle.cif_defs.specs.Cells.{Cell, words_by, coarse_by, next_by, shown_word, width, number_of, state_bits, state_bits_by}
use Rattle.cif_defs.specs.Completions.{can_differ}
use Rattle.cif_defs.specs.Taint.{next_bit, next_register_taint, output_bit}
use Rattle.cif_defs.specs.Table.{kind_of}
use Rattle.cif_defs.specs.RawModule.{digits_given}
use Rattle.cif_defs.specs.Accepted.{cell_by, cell_of, initial_by, initial_of}
use Rattle.cif_defs.specs.Stimulus.{Stimulus, StimLine, TaintedWord, reg_line, mem_line, release_line, cycle_line, set_line, sized, started_by, with_row}
use Rattle.cif_defs.specs.declared.kinds.Kind.{Kind}
use Rattle.cif_defs.specs.declared.kinds.Kind.TheVariants.{Not, Mul, Dff}
use Rattle.cif_defs.specs.declared.kinds.Role.{Role}
use Rattle.cif_defs.specs.declared.kinds.Role.TheVariants.{Combinational, PlainRegister, ResetRegister, MemoryBlock, CarriedOver}
use Rattle.cif_defs.specs.declared.kinds.Param.TheVariants.{Init, Offset}
use Rattle.cif_defs.specs.declared.raw_module.RawCell.{RawCell}
use Rattle.cif_defs.specs.declared.raw_module.RawName.{RawName}
use Rattle.cif_defs.specs.declared.raw_module.Raw.{Raw}
use Rattle.cif_raw_runs.specs.Given.{cell_starts, flag_next, taint_given, taint_next, word_given, word_next}

-- a cell with its nets taken off
abbrev pub bare : Cell → Cell
bare c = record c { operands = []; outputs = [] }

-- ---- kind by kind

words_bare : (k : Kind) (c : Cell) (us : List Word) → words_by k c us ≡ words_by k (bare c) us
unfolding words_by
words_bare Not c us = refl
words_bare _ c us = refl

coarse_bare : (k : Kind) (c : Cell) (vs ts : List Word) → coarse_by k c vs ts ≡ coarse_by k (bare c) vs ts
unfolding coarse_by
coarse_bare Mul c vs ts = refl
coarse_bare _ c vs ts = refl

next_bare : (k : Kind) (c : Cell) (us : List Word) (stored : Word) → next_by k c us stored ≡ next_by k (bare c) us stored
unfolding next_by
next_bare Dff c us stored = refl
next_bare _ c us stored = refl

-- ---- taints

output_bare : (c : Cell) (p i : ℕ) (us : List Word) → output_bit c p i us ≡ output_bit (bare c) p i us
output_bare c p i us = ap (λ (ws : List Word). bit (operand ws p) i) (words_bare c.kind c us)

output_taint_by : (coarse : Bool) (c : Cell) (p i : ℕ) (vs ts : List Word)
    → (if coarse then bit (coarse_by c.kind c vs ts) i else can_differ (output_bit c p i) vs ts) ≡ (if coarse then bit (coarse_by c.kind (bare c) vs ts) i else can_differ (output_bit (bare c) p i) vs ts)
output_taint_by true c p i vs ts = ap (λ (w : Word). bit w i) (coarse_bare c.kind c vs ts)
output_taint_by false c p i vs ts = ap (λ (f : List Word → Bool). can_differ f vs ts) (λ j us. output_bare c p i us j)

next_bit_bare : (c : Cell) (n i : ℕ) (us : List Word) → next_bit c n i us ≡ next_bit (bare c) n i us
next_bit_bare c n i us = ap (λ (w : Word). bit w i) (next_bare c.kind c (take n us) (operand us n))

next_taint_bare : (c : Cell) (vs ts : List Word) (stored stored_taint : Word) → next_register_taint c vs ts stored stored_taint ≡ next_register_taint (bare c) vs ts stored stored_taint
next_taint_bare c vs ts stored stored_taint =
    ap (λ (f : ℕ → List Word → Bool). word (width c) (λ i. can_differ (f i) (vs ++ stored ∷ []) (ts ++ stored_taint ∷ []))) (λ j i us. next_bit_bare c (length vs) i us j)

-- ---- what a cell gives and stores next

given_bare : (role : Role) (c : Cell) (us : List Word) (stored : Word) (p : ℕ) → word_given role c us stored p ≡ word_given role (bare c) us stored p
unfolding shown_word
given_bare Combinational c us stored p = ap (λ (ws : List Word). operand ws p) (words_bare c.kind c us)
given_bare PlainRegister c us stored p = refl
given_bare ResetRegister c us stored p = refl
given_bare MemoryBlock c us stored p = refl
given_bare CarriedOver c us stored p = refl

taint_given_bare : (role : Role) (c : Cell) (vs ts : List Word) (stored stored_taint : Word) (flag : Bool) (p i : ℕ) → taint_given role c vs ts stored stored_taint flag p i ≡ taint_given role (bare c) vs ts stored stored_taint flag p i
unfolding shown_word
taint_given_bare Combinational c vs ts stored stored_taint flag p i = output_taint_by (is_coarse c.kind) c p i vs ts
taint_given_bare PlainRegister c vs ts stored stored_taint flag p i = refl
taint_given_bare ResetRegister c vs ts stored stored_taint flag p i = refl
taint_given_bare MemoryBlock c vs ts stored stored_taint flag p i = refl
taint_given_bare CarriedOver c vs ts stored stored_taint flag p i = refl

word_next_bare : (role : Role) (c : Cell) (us : List Word) (stored : Word) → word_next role c us stored ≡ word_next role (bare c) us stored
word_next_bare Combinational c us stored = refl
word_next_bare PlainRegister c us stored = next_bare c.kind c us stored
word_next_bare ResetRegister c us stored = next_bare c.kind c us stored
word_next_bare MemoryBlock c us stored = refl
word_next_bare CarriedOver c us stored = refl

taint_next_bare : (role : Role) (c : Cell) (vs ts : List Word) (stored stored_taint : Word) → taint_next role c vs ts stored stored_taint ≡ taint_next role (bare c) vs ts stored stored_taint
taint_next_bare Combinational c vs ts stored stored_taint = refl
taint_next_bare PlainRegister c vs ts stored stored_taint = next_taint_bare c vs ts stored stored_taint
taint_next_bare ResetRegister c vs ts stored stored_taint = next_taint_bare c vs ts stored stored_taint
taint_next_bare MemoryBlock c vs ts stored stored_taint = refl
taint_next_bare CarriedOver c vs ts stored stored_taint = refl

flag_next_bare : (role : Role) (c : Cell) (vs ts : List Word) (flag : Bool) → flag_next role c vs ts flag ≡ flag_next role (bare c) vs ts flag
flag_next_bare MemoryBlock c vs ts flag = refl
flag_next_bare Combinational c vs ts flag = refl
flag_next_bare PlainRegister c vs ts flag = refl
flag_next_bare ResetRegister c vs ts flag = refl
flag_next_bare CarriedOver c vs ts flag = refl

-- ---- what it starts with

state_bare : (role : Role) (c : Cell) → state_bits_by role c ≡ state_bits_by role (bare c)
state_bare Combinational c = refl
state_bare PlainRegister c = refl
state_bare ResetRegister c = refl
state_bare MemoryBlock c = refl
state_bare CarriedOver c = refl

-- what a mem line gives to a cell of some state bits
abbrev row_given : List ℕ → ℕ → TaintedWord → Cell → ℕ → TaintedWord → TaintedWord
row_given name address w c n given =
    if bytes_eq name c.name
    then (record { value = with_row n (width c) (address - number_of c Offset) w.value given.value; taint = with_row n (width c) (address - number_of c Offset) w.taint given.taint })
    else given

abbrev starts_as : Raw → Stimulus → RawCell → Cell → TaintedWord
starts_as raw s cell c = sized (state_bits c) (started_by s.lines c (record { value = initial_by raw.names cell c (role_of c.kind); taint = [] }))

initial_bare : (role : Role) (names : List RawName) (raw : RawCell) (c : Cell) → initial_by names raw c role ≡ initial_by names raw (bare c) role
initial_bare Combinational names raw c = refl
initial_bare PlainRegister names raw c = refl
initial_bare ResetRegister names raw c = refl
initial_bare MemoryBlock names raw c = ap (λ (n : ℕ). word n (λ i. bit (digits_given raw Init) i)) (state_bare (role_of c.kind) c)
initial_bare CarriedOver names raw c = refl

started_bare : (lines : List StimLine) (c : Cell) (given : TaintedWord) → started_by lines c given ≡ started_by lines (bare c) given
started_bare [] c given = refl
started_bare (reg_line name w ∷ lines) c given = started_bare lines c (if bytes_eq name c.name then w else given)
started_bare (mem_line name address w ∷ lines) c given =
    started_bare lines c (row_given name address w c (state_bits c) given)
    ∙ ap (λ (n : ℕ). started_by lines (bare c) (row_given name address w c n given)) (state_bare (role_of c.kind) c)
started_bare (cycle_line j ∷ lines) c given = started_bare lines c given
started_bare (set_line name w ∷ lines) c given = started_bare lines c given
started_bare (release_line name bits ∷ lines) c given = started_bare lines c given

-- ---- so anywhere

same_bare : (ns ms : List ℕ) (c : RawCell) (o : Option Kind) → bare (cell_by ns c o) ≡ bare (cell_by ms c o)
same_bare ns ms c None = refl
same_bare ns ms c (Some k) = refl

-- what is the same of a cell with its nets taken off is the same wherever its nets are placed
pub anywhere : {A : Type 0} (f : Cell → A) (ns ms : List ℕ) (c : RawCell) → ((d : Cell) → f d ≡ f (bare d)) → f (cell_of ns c) ≡ f (cell_of ms c)
unfolding cell_of
anywhere f ns ms c h = h (cell_of ns c) ∙ ap f (same_bare ns ms c (kind_of c.kind)) ∙ sym (h (cell_of ms c))

pub word_given_anywhere : (ns ms : List ℕ) (raw : RawCell) (role : Role) (us : List Word) (stored : Word) (p : ℕ) → word_given role (cell_of ns raw) us stored p ≡ word_given role (cell_of ms raw) us stored p
word_given_anywhere ns ms raw role us stored p = anywhere (λ (c : Cell). word_given role c us stored p) ns ms raw (λ c. given_bare role c us stored p)

pub taint_given_anywhere : (ns ms : List ℕ) (raw : RawCell) (role : Role) (vs ts : List Word) (stored stored_taint : Word) (flag : Bool) (p i : ℕ)
    → taint_given role (cell_of ns raw) vs ts stored stored_taint flag p i ≡ taint_given role (cell_of ms raw) vs ts stored stored_taint flag p i
taint_given_anywhere ns ms raw role vs ts stored stored_taint flag p i = anywhere (λ (c : Cell). taint_given role c vs ts stored stored_taint flag p i) ns ms raw (λ c. taint_given_bare role c vs ts stored stored_taint flag p i)

pub word_next_anywhere : (ns ms : List ℕ) (raw : RawCell) (role : Role) (us : List Word) (stored : Word) → word_next role (cell_of ns raw) us stored ≡ word_next role (cell_of ms raw) us stored
word_next_anywhere ns ms raw role us stored = anywhere (λ (c : Cell). word_next role c us stored) ns ms raw (λ c. word_next_bare role c us stored)

pub taint_next_anywhere : (ns ms : List ℕ) (raw : RawCell) (role : Role) (vs ts : List Word) (stored stored_taint : Word) → taint_next role (cell_of ns raw) vs ts stored stored_taint ≡ taint_next role (cell_of ms raw) vs ts stored stored_taint
taint_next_anywhere ns ms raw role vs ts stored stored_taint = anywhere (λ (c : Cell). taint_next role c vs ts stored stored_taint) ns ms raw (λ c. taint_next_bare role c vs ts stored stored_taint)

pub flag_next_anywhere : (ns ms : List ℕ) (raw : RawCell) (role : Role) (vs ts : List Word) (flag : Bool) → flag_next role (cell_of ns raw) vs ts flag ≡ flag_next role (cell_of ms raw) vs ts flag
flag_next_anywhere ns ms raw role vs ts flag = anywhere (λ (c : Cell). flag_next role c vs ts flag) ns ms raw (λ c. flag_next_bare role c vs ts flag)

-- the lines of a stimulus, the names, and the cell itself
starts_bare : (raw : Raw) (s : Stimulus) (cell : RawCell) (c : Cell) → starts_as raw s cell c ≡ starts_as raw s cell (bare c)
starts_bare raw s cell c =
    ap (λ (n : ℕ). sized n (started_by s.lines c (record { value = initial_by raw.names cell c (role_of c.kind); taint = [] }))) (state_bare (role_of c.kind) c)
    ∙ ap (λ (w : TaintedWord). sized (state_bits_by (role_of c.kind) (bare c)) w) (started_bare s.lines c (record { value = initial_by raw.names cell c (role_of c.kind); taint = [] })
    ∙ ap (λ (w : Word). started_by s.lines (bare c) (record { value = w; taint = [] })) (initial_bare (role_of c.kind) raw.names cell c))

pub starts_anywhere : (ns ms : List ℕ) (raw : Raw) (s : Stimulus) (c : RawCell) → cell_starts ns raw s c ≡ cell_starts ms raw s c
unfolding initial_of
starts_anywhere ns ms raw s c = anywhere (starts_as raw s c) ns ms c (starts_bare raw s c)
