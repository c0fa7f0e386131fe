-- Texts, session by session.
use Rattle.std.specs.Prelude.{ℕ, zero, suc, ◌+◌, ◌≡◌, ◌<◌, List, [], ◌∷◌, ◌++◌, length, get_or, take}
use Rattle.std.proofs.Common.{arith, sym, ap, ◌∙◌}
use Rattle.std.proofs.lemmas.List.{append-nil, append_assoc}
use Rattle.cif_script.specs.declared.answer.Answer.{Answer}
use Rattle.cif_script.specs.declared.session.SessionScript.{SessionScript}
use Rattle.cif_run.specs.Runs.{session_text, sessions_text, transcript_at}

-- one session more
pub sessions_more : (ss : List SessionScript) (ts : List (List Answer)) (i : ℕ) (d : SessionScript) → i < length ss
    → sessions_text (take (i + 1) ss) ts ≡ sessions_text (take i ss) ts ++ session_text (get_or ss i d) (transcript_at ts i)
sessions_more [] ts i d h = absurd (omega arith)
sessions_more (s ∷ ss) [] zero d h = append-nil (session_text s [])
sessions_more (s ∷ ss) (t ∷ ts) zero d h = append-nil (session_text s t)
sessions_more (s ∷ ss) [] (suc i) d h =
    let e : suc i + 1 ≡ suc (i + 1) = omega arith in
    ap (λ k. sessions_text (take k (s ∷ ss)) []) e
    ∙ ap (λ t. session_text s [] ++ t) (sessions_more ss [] i d (omega arith))
    ∙ sym (append_assoc (session_text s []) (sessions_text (take i ss) []) (session_text (get_or ss i d) []))
sessions_more (s ∷ ss) (t ∷ ts) (suc i) d h =
    let e : suc i + 1 ≡ suc (i + 1) = omega arith in
    ap (λ k. sessions_text (take k (s ∷ ss)) (t ∷ ts)) e
    ∙ ap (λ u. session_text s t ++ u) (sessions_more ss ts i d (omega arith))
    ∙ sym (append_assoc (session_text s t) (sessions_text (take i ss) ts) (session_text (get_or ss i d) (transcript_at ts i)))

pub text_more : (before text more : List ℕ) (ss : List SessionScript) (ts : List (List Answer)) (i : ℕ) (s : SessionScript) (t : List Answer)
    → i < length ss → s ≡ get_or ss i s → t ≡ transcript_at ts i → text ≡ before ++ sessions_text (take i ss) ts → more ≡ text ++ session_text s t
    → more ≡ before ++ sessions_text (take (i + 1) ss) ts
text_more before text more ss ts i s t low is at was longer =
    let here : session_text s t ≡ session_text (get_or ss i s) (transcript_at ts i) = ap (λ z. session_text z t) is ∙ ap (λ z. session_text (get_or ss i s) z) at in
    longer ∙ ap (λ z. z ++ session_text s t) was ∙ append_assoc before (sessions_text (take i ss) ts) (session_text s t)
    ∙ ap (λ z. before ++ z) (ap (λ z. sessions_text (take i ss) ts ++ z) here ∙ sym (sessions_more ss ts i s low))
