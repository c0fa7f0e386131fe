-- Lists that grow by one.
use Rattle.std.specs.Prelude.{ℕ, ◌+◌, ◌*◌, ◌≡◌, ◌<◌, List, [], ◌∷◌, ◌++◌, length, map, get_or, sum}
use Rattle.std.proofs.Common.{arith, below_more, ap, subst, sym, ◌∙◌}
use Rattle.std.proofs.lemmas.List.{get_or-map, get_or_append_left, length-append, length-map}
use Rattle.std.proofs.Math.Seq.{get_or-append_seam}
use Rattle.cif_defs.specs.Netlist.{Netlist}
use Rattle.cif_defs.specs.Stimulus.{Stimulus}
use Rattle.cif_script.specs.Legal.{IsTranscript}
use Rattle.cif_script.specs.Scripts.{ScriptData}
use Rattle.cif_script.specs.declared.answer.Answer.{Answer}
use Rattle.cif_run.specs.Readers.{AllLegal, AreNumbered, ReaderOf, number_of}
use Rattle.cif_run.specs.Runs.{IsRun, ToldData, lines_at}
use Rattle.cif_run.specs.declared.size.RunSize.{RunSize}

one_more : {X : Type 0} (xs ys : List X) (x : X) → ys ≡ xs ++ x ∷ [] → length ys ≡ length xs + 1
one_more xs ys x e = ap length e ∙ length-append xs (x ∷ [])

-- one reader more, with the next number
pub numbered_more : (rs more : List ReaderOf) (r : ReaderOf) → AreNumbered rs → r.number ≡ length rs → more ≡ rs ++ r ∷ [] → AreNumbered more
numbered_more rs more r h is e i d low =
    let count = one_more rs more r e in
    below_more (λ j. (get_or more j d).number ≡ j) (length rs)
    (λ j less. ap (λ (zs : List ReaderOf). (get_or zs j d).number) e ∙ ap number_of (get_or_append_left rs (r ∷ []) d j less) ∙ h j d less)
    (ap (λ (zs : List ReaderOf). (get_or zs (length rs) d).number) e ∙ ap number_of (get_or-append_seam rs r [] d) ∙ is)
    i (omega (arith, count, low))

-- one transcript more, of the next session
pub legal_more : (n : Netlist) (s : Stimulus) (script : ScriptData) (ts more : List (List Answer)) (t : List Answer)
    → AllLegal n s script ts → IsTranscript n s script.wires (lines_at script.sessions (length ts)) t → more ≡ ts ++ t ∷ [] → AllLegal n s script more
legal_more n s script ts more t h last e i low =
    let P : ℕ → List Answer → Type 0 = λ j answers. IsTranscript n s script.wires (lines_at script.sessions j) answers in
    let Q : ℕ → List (List Answer) → Type 0 = λ j all. P j (get_or all j []) in
    let count = one_more ts more t e in
    below_more (λ j. Q j more) (length ts)
    (λ j less. subst (Q j) (sym e) (subst (P j) (sym (get_or_append_left ts (t ∷ []) [] j less)) (h j less)))
    (subst (Q (length ts)) (sym e) (subst (P (length ts)) (sym (get_or-append_seam ts t [] [])) last))
    i (omega (arith, count, low))

-- readers of the same numbers
pub same_number : (rs more : List ReaderOf) → map number_of more ≡ map number_of rs → (i : ℕ) (d : ReaderOf) → i < length more → (get_or more i d).number ≡ (get_or rs i d).number
same_number rs more e i d low =
    let count : length more ≡ length rs = sym (length-map more number_of) ∙ ap length e ∙ length-map rs number_of in
    sym (get_or-map number_of more i d 0 low) ∙ ap (λ (ns : List ℕ). get_or ns i 0) e ∙ get_or-map number_of rs i d 0 (omega (arith, count, low))

-- a run of these transcripts and counts
pub told_run : (n : Netlist) (s : Stimulus) (script : ScriptData) (size : RunSize) (told : ToldData) (ts : List (List Answer)) (cs : List ℕ)
    → told ≡ record { transcripts = ts; counts = cs } → length ts ≡ length script.sessions → AllLegal n s script ts → length cs ≡ size.workers → sum cs ≡ s.cycles * size.parts
    → IsRun n s script size told
told_run n s script size told ts cs e sessions legal workers pieces =
    let made : IsRun n s script size (record { transcripts = ts; counts = cs }) = record {
      as_many_transcripts = sessions;
      legal = (λ i low. legal i (omega (arith, sessions, low)));
      as_many_counts = workers;
      all_pieces = pieces;
    } in
    subst (λ (t : ToldData). IsRun n s script size t) (sym e) made
