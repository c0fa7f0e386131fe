-- The bits that registers store next and show, as functions of the bits that they read: what they give is a free bit.
use Rattle.std.specs.Prelude.{◌≡◌, Bool, false, not, ◌&&◌, List, [], ◌∷◌, if◌then◌else◌}
use Rattle.std.proofs.Common.{ap, ◌∙◌}
use Rattle.cif_defs.specs.Completions.{some_bit}
use Rattle.cif_defs.specs.Words.{bit}
use Rattle.cif_defs.proofs.Exact.{bits_can_differ, some_bits}
use Rattle.rule_state.proofs.BitChoices.{choice_taint, both_bits, depends, some_chosen, some_constant, some_same, some_swap}

-- ---- an enable, and a reset: a and r say which bits of them are active, and v is a bit of the reset value

abbrev pub enabled_value : (Bool → Bool) → Bool → Bool → Bool → Bool
enabled_value a d e s = if a e then d else s

abbrev pub enabled_taint : (Bool → Bool) → Bool → Bool → Bool → Bool → Bool → Bool → Bool
enabled_taint a d td e te s ts = choice_taint s ts d td (a e) (te && depends a)

abbrev pub reset_value : (Bool → Bool) → Bool → Bool → Bool → Bool
reset_value r v d x = if r x then v else d

abbrev pub reset_taint : (Bool → Bool) → Bool → Bool → Bool → Bool → Bool → Bool
reset_taint r v d td x tx = choice_taint d td v false (r x) (tx && depends r)

some_enabled : (a p : Bool → Bool) (td d te e ts s : Bool) → some_bit td d (λ d'. some_bit te e (λ e'. some_bit ts s (λ s'. p (enabled_value a d' e' s')))) ≡ some_bit (enabled_taint a d td e te s ts) (enabled_value a d e s) p
some_enabled a p td d te e ts s =
    some_swap td d te e (λ d' e'. some_bit ts s (λ s'. p (enabled_value a d' e' s')))
    ∙ some_same te e (λ e'. some_bit td d (λ d'. some_bit ts s (λ s'. p (enabled_value a d' e' s')))) (λ e'. some_bit ts s (λ s'. some_bit td d (λ d'. p (enabled_value a d' e' s'))))
    (λ e'. some_swap td d ts s (λ d' s'. p (enabled_value a d' e' s')))
    ∙ some_chosen te e ts s td d a p

some_reset : (r p : Bool → Bool) (v td d tx x : Bool) → some_bit td d (λ d'. some_bit tx x (λ x'. p (reset_value r v d' x'))) ≡ some_bit (reset_taint r v d td x tx) (reset_value r v d x) p
some_reset r p v td d tx x = some_swap td d tx x (λ d' x'. p (reset_value r v d' x')) ∙ some_chosen tx x td d false v r p

-- ---- what is a free bit can differ where that is tainted

differs_as : (g : List Bool → Bool) (xs ts : List Bool) (v t : Bool) → ((p : Bool → Bool) → some_bits xs ts (λ ds. p (g ds)) ≡ some_bit t v p) → bits_can_differ g xs ts ≡ t
differs_as g xs ts v t e =
    ap (λ z. z && some_bits xs ts (λ ds. not (g ds))) (e (λ b. b)) ∙ ap (λ z. some_bit t v (λ b. b) && z) (e not) ∙ both_bits t v

-- ---- the rows of registers: the bits of D, the controls and the stored word

abbrev pub dff_of : List Bool → Bool
dff_of ds = bit ds 0

pub dff_table : (d td s ts : Bool) → bits_can_differ dff_of (d ∷ s ∷ []) (td ∷ ts ∷ []) ≡ td
dff_table d td s ts = differs_as dff_of (d ∷ s ∷ []) (td ∷ ts ∷ []) d td (λ p. some_same td d (λ d'. some_bit ts s (λ s'. p d')) p (λ d'. some_constant ts s (p d')))

abbrev pub dffe_of : (Bool → Bool) → List Bool → Bool
dffe_of a ds = enabled_value a (bit ds 0) (bit ds 1) (bit ds 2)

pub dffe_table : (a : Bool → Bool) (d td e te s ts : Bool) → bits_can_differ (dffe_of a) (d ∷ e ∷ s ∷ []) (td ∷ te ∷ ts ∷ []) ≡ enabled_taint a d td e te s ts
dffe_table a d td e te s ts = differs_as (dffe_of a) (d ∷ e ∷ s ∷ []) (td ∷ te ∷ ts ∷ []) (enabled_value a d e s) (enabled_taint a d td e te s ts) (λ p. some_enabled a p td d te e ts s)

-- $sdff and $adff
abbrev pub sdff_of : (Bool → Bool) → Bool → List Bool → Bool
sdff_of r v ds = reset_value r v (bit ds 0) (bit ds 1)

pub sdff_table : (r : Bool → Bool) (v d td x tx s ts : Bool) → bits_can_differ (sdff_of r v) (d ∷ x ∷ s ∷ []) (td ∷ tx ∷ ts ∷ []) ≡ reset_taint r v d td x tx
sdff_table r v d td x tx s ts = differs_as (sdff_of r v) (d ∷ x ∷ s ∷ []) (td ∷ tx ∷ ts ∷ []) (reset_value r v d x) (reset_taint r v d td x tx)
    (λ p. some_same td d (λ d'. some_bit tx x (λ x'. some_bit ts s (λ s'. p (reset_value r v d' x')))) (λ d'. some_bit tx x (λ x'. p (reset_value r v d' x')))
    (λ d'. some_same tx x (λ x'. some_bit ts s (λ s'. p (reset_value r v d' x'))) (λ x'. p (reset_value r v d' x')) (λ x'. some_constant ts s (p (reset_value r v d' x'))))
    ∙ some_reset r p v td d tx x)

-- $sdffe and $adffe
abbrev pub sdffe_of : (Bool → Bool) → (Bool → Bool) → Bool → List Bool → Bool
sdffe_of a r v ds = reset_value r v (enabled_value a (bit ds 0) (bit ds 1) (bit ds 3)) (bit ds 2)

pub sdffe_table : (a r : Bool → Bool) (v d td e te x tx s ts : Bool) → bits_can_differ (sdffe_of a r v) (d ∷ e ∷ x ∷ s ∷ []) (td ∷ te ∷ tx ∷ ts ∷ [])
    ≡ reset_taint r v (enabled_value a d e s) (enabled_taint a d td e te s ts) x tx
sdffe_table a r v d td e te x tx s ts =
    differs_as (sdffe_of a r v) (d ∷ e ∷ x ∷ s ∷ []) (td ∷ te ∷ tx ∷ ts ∷ []) (reset_value r v (enabled_value a d e s) x) (reset_taint r v (enabled_value a d e s) (enabled_taint a d td e te s ts) x tx)
    (λ p. some_same td d (λ d'. some_bit te e (λ e'. some_bit tx x (λ x'. some_bit ts s (λ s'. p (reset_value r v (enabled_value a d' e' s') x'))))) (λ d'. some_bit te e (λ e'. some_bit ts s (λ s'. some_bit tx x (λ x'. p (reset_value r v (enabled_value a d' e' s') x')))))
    (λ d'. some_same te e (λ e'. some_bit tx x (λ x'. some_bit ts s (λ s'. p (reset_value r v (enabled_value a d' e' s') x')))) (λ e'. some_bit ts s (λ s'. some_bit tx x (λ x'. p (reset_value r v (enabled_value a d' e' s') x'))))
    (λ e'. some_swap tx x ts s (λ x' s'. p (reset_value r v (enabled_value a d' e' s') x'))))
    ∙ some_enabled a (λ b. some_bit tx x (λ x'. p (reset_value r v b x'))) td d te e ts s
    ∙ some_reset r p v (enabled_taint a d td e te s ts) (enabled_value a d e s) tx x)

abbrev pub sdffce_of : (Bool → Bool) → (Bool → Bool) → Bool → List Bool → Bool
sdffce_of a r v ds = enabled_value a (reset_value r v (bit ds 0) (bit ds 2)) (bit ds 1) (bit ds 3)

pub sdffce_table : (a r : Bool → Bool) (v d td e te x tx s ts : Bool) → bits_can_differ (sdffce_of a r v) (d ∷ e ∷ x ∷ s ∷ []) (td ∷ te ∷ tx ∷ ts ∷ [])
    ≡ enabled_taint a (reset_value r v d x) (reset_taint r v d td x tx) e te s ts
sdffce_table a r v d td e te x tx s ts =
    differs_as (sdffce_of a r v) (d ∷ e ∷ x ∷ s ∷ []) (td ∷ te ∷ tx ∷ ts ∷ []) (enabled_value a (reset_value r v d x) e s) (enabled_taint a (reset_value r v d x) (reset_taint r v d td x tx) e te s ts)
    (λ p. some_same td d (λ d'. some_bit te e (λ e'. some_bit tx x (λ x'. some_bit ts s (λ s'. p (enabled_value a (reset_value r v d' x') e' s'))))) (λ d'. some_bit tx x (λ x'. some_bit te e (λ e'. some_bit ts s (λ s'. p (enabled_value a (reset_value r v d' x') e' s')))))
    (λ d'. some_swap te e tx x (λ e' x'. some_bit ts s (λ s'. p (enabled_value a (reset_value r v d' x') e' s'))))
    ∙ some_reset r (λ b. some_bit te e (λ e'. some_bit ts s (λ s'. p (enabled_value a b e' s')))) v td d tx x
    ∙ some_enabled a p (reset_taint r v d td x tx) (reset_value r v d x) te e ts s)

-- what a register with asynchronous reset shows: the bits of the reset and of the stored word
abbrev pub shown_of : (Bool → Bool) → Bool → List Bool → Bool
shown_of r v ds = reset_value r v (bit ds 1) (bit ds 0)

pub shown_table : (r : Bool → Bool) (v x tx s ts : Bool) → bits_can_differ (shown_of r v) (x ∷ s ∷ []) (tx ∷ ts ∷ []) ≡ reset_taint r v s ts x tx
shown_table r v x tx s ts =
    differs_as (shown_of r v) (x ∷ s ∷ []) (tx ∷ ts ∷ []) (reset_value r v s x) (reset_taint r v s ts x tx) (λ p. some_chosen tx x ts s false v r p)
