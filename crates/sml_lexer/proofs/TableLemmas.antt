-- The table of names as tokens are read.
use Rattle.std.proofs.Common.{◌≡◌, ℕ, ◌<◌, List, [], ◌∷◌, ◌++◌, length, map, refl, sym, ap, ◌∙◌, subst, append-nil, arith}
use Rattle.std.specs.Prelude.{All}
use Rattle.std.specs.List.{flat_map}
use Rattle.std.proofs.lemmas.List.{map-append}
use Rattle.mlc_names.specs.declared.token.Token.{Token}
use Rattle.mlc_names.specs.Names.{with_text, with_texts}
use Rattle.mlc_names.proofs.NamesLemmas.{with_texts-append}
use Rattle.mlc_names.specs.declared.token.TokenKind.{TokenKind}
use Rattle.mlc_names.specs.declared.token.TokenKind.TheVariants as kind
use Rattle.sml_lexer.specs.declared.item.Item as code_item
use Rattle.sml_lexer.specs.declared.item.Item.TheVariants as code
use Rattle.sml_lexer.specs.Identifiers.{named}
use Rattle.sml_lexer.specs.Item.{Item, blank, words_of}
use Rattle.sml_lexer.specs.ItemOf.{item_of, FitsItem, IsItem}
use Rattle.sml_lexer.specs.Lexeme.{lexeme_of, HoldsNames, text_of, words_in}
use Rattle.sml_lexer.specs.Lexes.{Lexed, HoldsAllNames, lexed_of, names_after}
use Rattle.sml_lexer.specs.NameTable.{Keeps}
use Rattle.sml_lexer.proofs.IdentifierLemmas.{pushed}
use Rattle.sml_lexer.proofs.TokenLemmas.{lexed_stay}

-- Within an identifier.

pub words-named : (qualifiers : List (List ℕ)) (name : List ℕ) → words_in (named qualifiers name) ≡ qualifiers ++ name ∷ []
words-named [] name = refl
words-named (q ∷ qualifiers) name = refl

-- one part more
pub table-part : (start a b : List (List ℕ)) (qs qs' : List ℕ) (name next : ℕ) (text : List ℕ) → Keeps a b → All (λ q. q < length a) qs → name < length a → qs' ≡ qs ++ name ∷ [] → a ≡ with_texts start (map (text_of a) qs ++ text_of a name ∷ []) → b ≡ with_text a text → text_of b next ≡ text → b ≡ with_texts start (map (text_of b) qs' ++ text_of b next ∷ [])
table-part start a b qs qs' name next text k held h longer before is said =
    let front = map (text_of a) qs ++ text_of a name ∷ [] in
    let same : map (text_of b) qs' ≡ front = ap (map (text_of b)) longer ∙ pushed a b qs name k held h in
    is ∙ ap (with_text a) (sym said) ∙ ap (λ x. with_text x (text_of b next)) before ∙ sym (with_texts-append start front (text_of b next ∷ [])) ∙ ap (λ ts. with_texts start (ts ++ text_of b next ∷ [])) (sym same)

-- Token after token.

names_after-append : (names : List (List ℕ)) (tokens more : List Lexed) → names_after names (tokens ++ more) ≡ names_after (names_after names tokens) more
names_after-append names [] more = refl
names_after-append names (t ∷ tokens) more =
    let words = words_in t.lexeme in
    let each : List Lexed → List (List ℕ) = flat_map (λ (u : Lexed). words_in u.lexeme) in
    with_texts-append names words (each (tokens ++ more)) ∙ names_after-append (with_texts names words) tokens more
    ∙ ap (λ n. names_after n more) (sym (with_texts-append names words (each tokens)))

module _ (start a b : List (List ℕ)) (tokens : List Token) (before : a ≡ names_after start (map (lexed_of a) tokens)) (item : Item) (is : b ≡ with_texts a (words_of item)) where
  pub table-blank : (rest : List ℕ) → blank rest ≡ item → b ≡ names_after start (map (lexed_of b) tokens)
  table-blank rest e =
      let same : b ≡ a = is ∙ ap (λ i. with_texts a (words_of i)) (sym e) in
      subst (λ n. n ≡ names_after start (map (lexed_of n) tokens)) (sym same) before

  pub table-token : (t : Token) (more : List Token) → Keeps a b → HoldsAllNames a tokens → words_in (lexeme_of b t.kind) ≡ words_of item → more ≡ tokens ++ t ∷ [] → b ≡ names_after start (map (lexed_of b) more)
  table-token t more k held said longer =
      let all : map (lexed_of b) more ≡ map (lexed_of a) tokens ++ lexed_of b t ∷ [] =
      ap (map (lexed_of b)) longer ∙ map-append (lexed_of b) tokens (t ∷ []) ∙ ap (λ ts. ts ++ lexed_of b t ∷ []) (lexed_stay a b tokens k held) in
      is ∙ ap (with_texts a) (sym said ∙ sym (append-nil (words_in (lexeme_of b t.kind)))) ∙ ap (λ n. names_after n (lexed_of b t ∷ [])) before
      ∙ sym (names_after-append start (map (lexed_of a) tokens) (lexed_of b t ∷ [])) ∙ ap (names_after start) (sym all)

-- Items without identifiers.

no-words-in : (k : TokenKind) → HoldsNames [] k → words_in (lexeme_of [] k) ≡ []
no-words-in (kind.Reserved r) h = refl
no-words-in (kind.Int value plain) h = refl
no-words-in (kind.Word w) h = refl
no-words-in (kind.Char c) h = refl
no-words-in (kind.Str s) h = refl
no-words-in (kind.Ident x) h = absurd (omega (arith, h))
no-words-in (kind.Symbol x) h = absurd (omega (arith, h))
no-words-in (kind.LongIdent qs x) h = absurd (omega (arith, h.1))
no-words-in (kind.LongSymbol qs x) h = absurd (omega (arith, h.1))
no-words-in (kind.TypeVar x) h = absurd (omega (arith, h))
no-words-in (kind.EqTypeVar x) h = absurd (omega (arith, h))

no-words : (text : List ℕ) (answer : code_item.Item) → FitsItem [] text answer → words_of (item_of [] text answer) ≡ []
no-words text (code.Blank n) h = refl
no-words text (code.Token k n) h = no-words-in k h.2
no-words text (code.Refused c) h = refl

-- what fits an empty table brings no name
pub table-same : (names : List (List ℕ)) (text : List ℕ) (answer : code_item.Item) (item item' : Item) → IsItem [] text answer item → item' ≡ item → names ≡ with_texts names (words_of item')
table-same names text answer item item' h e =
    let none : words_of item' ≡ [] = ap words_of (e ∙ sym h.same) ∙ no-words text answer h.fits in
    ap (with_texts names) (sym none)
