-- Sequences of items.
use Rattle.std.proofs.Common.{◌≡◌, ℕ, List, [], ◌∷◌, ◌++◌, length, refl, ap, ◌∙◌, subst}
use Rattle.mlc_faults.specs.declared.code.Code.{Code}
use Rattle.sml_lexer.specs.Item.{blank, found, refused}
use Rattle.sml_lexer.specs.Items.{item_at}
use Rattle.mlc_faults.specs.declared.code.Code.TheVariants.{NoToken}
use Rattle.sml_lexer.specs.Lexeme.{Lexeme}
use Rattle.sml_lexer.specs.Lexes.{Lexed, Reads, nothing, a_blank, a_token, OneReading, lexed}

-- no item begins at the end
at_end : item_at [] ≡ refused NoToken
unfolding item_at
at_end = refl

-- one item more
pub then_blank : (size : ℕ) (text mid left : List ℕ) (ts : List Lexed) → Reads size text ts mid → item_at mid ≡ blank left → Reads size text ts left
then_blank size text mid left ts (nothing t) e = a_blank text left left [] e (nothing left)
then_blank size text mid left ts (a_blank t r m us f d) e = a_blank text r left ts f (then_blank size r mid left ts d e)
then_blank size text mid left ts (a_token t r m l us f d) e = a_token text r left l us f (then_blank size r mid left us d e)

pub then_token : (size : ℕ) (text mid left : List ℕ) (ts : List Lexed) (lexeme : Lexeme) → Reads size text ts mid → item_at mid ≡ found lexeme left → Reads size text (ts ++ lexed size lexeme mid left ∷ []) left
then_token size text mid left ts lexeme (nothing t) e = a_token text left left lexeme [] e (nothing left)
then_token size text mid left ts lexeme (a_blank t r m us f d) e = a_blank text r left (ts ++ lexed size lexeme mid left ∷ []) f (then_token size r mid left ts lexeme d e)
then_token size text mid left ts lexeme (a_token t r m l us f d) e = a_token text r left l (us ++ lexed size lexeme mid left ∷ []) f (then_token size r mid left us lexeme d e)

-- where no item begins before the end, there are no tokens
pub no_reading : (size : ℕ) (text mid : List ℕ) (ts us : List Lexed) (code : Code) → Reads size text ts mid → item_at mid ≡ refused code → (mid ≡ [] → ⊥) → Reads size text us [] → ⊥
no_reading size text mid ts us code (nothing t) e some (nothing u) = some refl
no_reading size text mid ts us code (nothing t) e some (a_blank u r m vs f d) = cc
no_reading size text mid ts us code (nothing t) e some (a_token u r m l vs f d) = cc
no_reading size text mid ts us code (a_blank t r m vs f d) e some (nothing u) = cc at_end
no_reading size text mid ts us code (a_blank t r m vs f d) e some (a_blank u r' m' vs' f' d') =
    let same : r' ≡ r = cc in
    no_reading size r mid ts us code d e some (subst (λ x. Reads size x us []) same d')
no_reading size text mid ts us code (a_blank t r m vs f d) e some (a_token u r' m' l vs' f' d') = cc
no_reading size text mid ts us code (a_token t r m l vs f d) e some (nothing u) = cc at_end
no_reading size text mid ts us code (a_token t r m l vs f d) e some (a_blank u r' m' vs' f' d') = cc
no_reading size text mid ts us code (a_token t r m l vs f d) e some (a_token u r' m' l' vs' f' d') =
    let same : r' ≡ r = cc in
    no_reading size r mid vs vs' code d e some (subst (λ x. Reads size x vs' []) same d')

unique : (size : ℕ) (text : List ℕ) (ts us : List Lexed) → Reads size text ts [] → Reads size text us [] → ts ≡ us
unique size text ts us (nothing t) (nothing u) = refl
unique size text ts us (nothing t) (a_blank u r m vs f d) = cc at_end
unique size text ts us (nothing t) (a_token u r m l vs f d) = cc at_end
unique size text ts us (a_blank t r m vs f d) (nothing u) = cc at_end
unique size text ts us (a_blank t r m vs f d) (a_blank u r' m' vs' f' d') =
    let same : r' ≡ r = cc in
    unique size r ts us d (subst (λ x. Reads size x us []) same d')
unique size text ts us (a_blank t r m vs f d) (a_token u r' m' l vs' f' d') = cc
unique size text ts us (a_token t r m l vs f d) (nothing u) = cc at_end
unique size text ts us (a_token t r m l vs f d) (a_blank u r' m' vs' f' d') = cc
unique size text ts us (a_token t r m l vs f d) (a_token u r' m' l' vs' f' d') =
    let same : r' ≡ r = cc in
    let same_lexeme : l' ≡ l = cc in
    let rest_same = unique size r vs vs' d (subst (λ x. Reads size x vs' []) same d') in
    let first_same : lexed size l text r ≡ lexed size l' text r' = rw (same, same_lexeme) refl in
    ap (λ x. x ∷ vs) first_same ∙ ap (λ xs. lexed size l' text r' ∷ xs) rest_same

pub one_reading : OneReading
one_reading bytes ts us d d' = unique (length bytes) bytes ts us d d'
