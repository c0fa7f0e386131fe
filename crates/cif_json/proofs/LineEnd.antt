-- A line end after a printed text changes nothing of what is read in it.
use Rattle.std.proofs.Common.{◌≡◌, ℕ, Bool, true, false, cond, ◌&&◌, List, [], ◌∷◌, ◌++◌, refl, sym, ap, ap₂, ◌∙◌, append_assoc}
use Rattle.json.specs.Token.{Token, begin_object, end_object, begin_array, end_array, key, string, number, boolean, null, bad}
use Rattle.json.specs.Word.{ends_word, word}
use Rattle.json.specs.Lex.{Lexeme, token, comma, colon, string_token, lex, between, fresh, punctuate, tokens}
use Rattle.json.specs.Print.{escape, quoted, token_text, begins, ends, print_from, print, IsPrintable, ArePrintable}
use Rattle.json.proofs.Printed.Strings.{content-escape, lex-escape}
use Rattle.json.proofs.Printed.Numbers.{lex-number, in_word-ended}
use Rattle.json.proofs.Printed.Tokens.{tokens-print}
use Rattle.cif_defs.specs.Text.{line_end}

abbrev ended : List ℕ → List ℕ
ended text = text ++ line_end ∷ []

-- ---- what the lexer makes of a token's text, whatever follows

abbrev lexemes_of : Token → List Lexeme
lexemes_of begin_object = token begin_object ∷ []
lexemes_of end_object = token end_object ∷ []
lexemes_of begin_array = token begin_array ∷ []
lexemes_of end_array = token end_array ∷ []
lexemes_of (key s) = token (string s) ∷ colon ∷ []
lexemes_of (string s) = token (string s) ∷ []
lexemes_of (number s) = token (number s) ∷ []
lexemes_of (boolean b) = token (boolean b) ∷ []
lexemes_of null = token null ∷ []
lexemes_of bad = []

lex-quoted : (s r : List ℕ) → lex between (quoted s ++ r) ≡ token (string s) ∷ lex between r
unfolding lex
lex-quoted s r =
    ap (λ l. lex between (34 ∷ l)) (append_assoc (escape s) (34 ∷ []) r)
    ∙ ap₂ (λ o l. token (string_token o) ∷ l) (content-escape s r) (lex-escape s r)

lex-token : (t : Token) (r : List ℕ) → IsPrintable t → (ends t ≡ true → ends_word r ≡ true) → lex between (token_text t ++ r) ≡ lexemes_of t ++ lex between r
unfolding lex word
lex-token begin_object r h e = refl
lex-token end_object r h e = refl
lex-token begin_array r h e = refl
lex-token end_array r h e = refl
lex-token (key s) r h e = ap (lex between) (append_assoc (quoted s) (58 ∷ []) r) ∙ lex-quoted s (58 ∷ r)
lex-token (string s) r h e = lex-quoted s r
lex-token (number s) r h e = lex-number s r h (e refl)
lex-token (boolean true) r h e = ap₂ (λ b l. token (cond b (boolean true) bad) ∷ l) (e refl) (in_word-ended r (e refl))
lex-token (boolean false) r h e = ap₂ (λ b l. token (cond b (boolean false) bad) ∷ l) (e refl) (in_word-ended r (e refl))
lex-token null r h e = ap₂ (λ b l. token (cond b null bad) ∷ l) (e refl) (in_word-ended r (e refl))
lex-token bad r h e = absurd h

lex-separator : (b : Bool) (r : List ℕ) → lex between (cond b (44 ∷ []) [] ++ r) ≡ cond b (comma ∷ []) [] ++ lex between r
unfolding lex
lex-separator true r = refl
lex-separator false r = refl

lex-first : (c : Bool) (t : Token) (r : List ℕ) → IsPrintable t → (ends t ≡ true → ends_word r ≡ true)
    → lex between (cond (c && begins t) (44 ∷ []) [] ++ (token_text t ++ r)) ≡ cond (c && begins t) (comma ∷ []) [] ++ (lexemes_of t ++ lex between r)
lex-first c t r h e = lex-separator (c && begins t) _ ∙ ap (λ l. cond (c && begins t) (comma ∷ []) [] ++ l) (lex-token t r h e)

-- ---- the same with a line end at the end of the text

word_ends : (ts : List Token) → ends_word (print_from true ts) ≡ true
unfolding print_from
word_ends [] = refl
word_ends (begin_object ∷ ts) = refl
word_ends (end_object ∷ ts) = refl
word_ends (begin_array ∷ ts) = refl
word_ends (end_array ∷ ts) = refl
word_ends (key s ∷ ts) = refl
word_ends (string s ∷ ts) = refl
word_ends (number s ∷ ts) = refl
word_ends (boolean b ∷ ts) = refl
word_ends (null ∷ ts) = refl
word_ends (bad ∷ ts) = refl

word_ends_before_line_end : (ts : List Token) → ends_word (ended (print_from true ts)) ≡ true
unfolding print_from
word_ends_before_line_end [] = refl
word_ends_before_line_end (begin_object ∷ ts) = refl
word_ends_before_line_end (end_object ∷ ts) = refl
word_ends_before_line_end (begin_array ∷ ts) = refl
word_ends_before_line_end (end_array ∷ ts) = refl
word_ends_before_line_end (key s ∷ ts) = refl
word_ends_before_line_end (string s ∷ ts) = refl
word_ends_before_line_end (number s ∷ ts) = refl
word_ends_before_line_end (boolean b ∷ ts) = refl
word_ends_before_line_end (null ∷ ts) = refl
word_ends_before_line_end (bad ∷ ts) = refl

lexed : (c : Bool) (ts : List Token) → ArePrintable ts → lex between (ended (print_from c ts)) ≡ lex between (print_from c ts)
unfolding lex print_from ArePrintable
lexed c [] h = refl
lexed c (t ∷ ts) h =
    let comma_text = cond (c && begins t) (44 ∷ []) [] in
    let rest = print_from (ends t) ts in
    ap (lex between) (append_assoc comma_text _ _ ∙ ap (λ s. comma_text ++ s) (append_assoc (token_text t) rest _))
    ∙ lex-first c t (ended rest) h.0 (λ e. ap (λ b. ends_word (ended (print_from b ts))) e ∙ word_ends_before_line_end ts)
    ∙ ap (λ l. cond (c && begins t) (comma ∷ []) [] ++ (lexemes_of t ++ l)) (lexed (ends t) ts h.1)
    ∙ sym (lex-first c t rest h.0 (λ e. ap (λ b. ends_word (print_from b ts)) e ∙ word_ends ts))

pub tokens_with_line_end : (ts : List Token) → ArePrintable ts → tokens (print ts ++ line_end ∷ []) ≡ ts
tokens_with_line_end ts h = ap (punctuate fresh) (lexed false ts h) ∙ tokens-print ts h
