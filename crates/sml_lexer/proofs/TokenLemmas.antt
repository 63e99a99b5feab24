-- Tokens whose names stay held.
use Rattle.std.proofs.Common.{◌≡◌, ℕ, ◌+◌, ◌-◌, ◌<◌, ◌≤◌, List, [], ◌∷◌, ◌++◌, length, map, drop, refl, arith, sym, ap, ◌∙◌, subst, length-drop}
use Rattle.std.specs.Prelude.{All}
use Rattle.std.proofs.lemmas.List.{drop-drop, map-append}
use Rattle.std.proofs.lemmas.List.Elements.{All-cons, All-head, All-nil, All-tail}
use Rattle.mlc_names.specs.declared.token.Token.{Token}
use Rattle.mlc_names.specs.declared.token.TokenKind.{TokenKind}
use Rattle.mlc_names.specs.declared.token.TokenKind.TheVariants as kind
use Rattle.sml_lexer.specs.Item.{blank, found}
use Rattle.sml_lexer.specs.Items.{item_at}
use Rattle.sml_lexer.specs.Lexeme.{lexeme_of, HoldsNames, text_of, ident, symbol, long_ident, long_symbol, type_var, eq_type_var}
use Rattle.sml_lexer.specs.Lexes.{lexed, lexed_of, HoldsAllNames, IsSlice, Reads, Rises}
use Rattle.sml_lexer.specs.NameTable.{Keeps}
use Rattle.sml_lexer.proofs.LexLemmas.{then_blank, then_token}
use Rattle.sml_lexer.proofs.NameLemmas.{all_held_stay, held_stays, text_stays, texts_stay}

pub lexeme_stays : (a b : List (List ℕ)) (k : TokenKind) → Keeps a b → HoldsNames a k → lexeme_of b k ≡ lexeme_of a k
lexeme_stays a b (kind.Reserved r) h n = refl
lexeme_stays a b (kind.Int value plain) h n = refl
lexeme_stays a b (kind.Word w) h n = refl
lexeme_stays a b (kind.Char c) h n = refl
lexeme_stays a b (kind.Str s) h n = refl
lexeme_stays a b (kind.Ident x) h n = ap ident (text_stays a b x h n)
lexeme_stays a b (kind.Symbol x) h n = ap symbol (text_stays a b x h n)
lexeme_stays a b (kind.LongIdent qs x) h n = ap (λ ts. long_ident ts (text_of b x)) (texts_stay a b qs.items h n.0) ∙ ap (long_ident (map (text_of a) qs.items)) (text_stays a b x h n.1)
lexeme_stays a b (kind.LongSymbol qs x) h n = ap (λ ts. long_symbol ts (text_of b x)) (texts_stay a b qs.items h n.0) ∙ ap (long_symbol (map (text_of a) qs.items)) (text_stays a b x h n.1)
lexeme_stays a b (kind.TypeVar x) h n = ap type_var (text_stays a b x h n)
lexeme_stays a b (kind.EqTypeVar x) h n = ap eq_type_var (text_stays a b x h n)

pub names_stay : (a b : List (List ℕ)) (k : TokenKind) → Keeps a b → HoldsNames a k → HoldsNames b k
names_stay a b (kind.Reserved r) h n = tt
names_stay a b (kind.Int value plain) h n = tt
names_stay a b (kind.Word w) h n = tt
names_stay a b (kind.Char c) h n = tt
names_stay a b (kind.Str s) h n = tt
names_stay a b (kind.Ident x) h n = held_stays a b x h n
names_stay a b (kind.Symbol x) h n = held_stays a b x h n
names_stay a b (kind.LongIdent qs x) h n = (all_held_stay a b qs.items h n.0, held_stays a b x h n.1)
names_stay a b (kind.LongSymbol qs x) h n = (all_held_stay a b qs.items h n.0, held_stays a b x h n.1)
names_stay a b (kind.TypeVar x) h n = held_stays a b x h n
names_stay a b (kind.EqTypeVar x) h n = held_stays a b x h n

pub all_names_stay : (a b : List (List ℕ)) (ts : List Token) → Keeps a b → HoldsAllNames a ts → HoldsAllNames b ts
all_names_stay a b [] h n = All-nil (λ t. HoldsNames b t.kind)
all_names_stay a b (t ∷ ts) h n =
    All-cons (λ t. HoldsNames b t.kind) t ts (names_stay a b t.kind h (All-head (λ t. HoldsNames a t.kind) t ts n)) (all_names_stay a b ts h (All-tail (λ t. HoldsNames a t.kind) t ts n))

pub lexed_stay : (a b : List (List ℕ)) (ts : List Token) → Keeps a b → HoldsAllNames a ts → map (lexed_of b) ts ≡ map (lexed_of a) ts
lexed_stay a b [] h n = refl
lexed_stay a b (t ∷ ts) h n =
    let first = lexeme_stays a b t.kind h (All-head (λ t. HoldsNames a t.kind) t ts n) in
    let others = lexed_stay a b ts h (All-tail (λ t. HoldsNames a t.kind) t ts n) in
    ap (λ l. record { lexeme = l; span = t.span } ∷ map (lexed_of b) ts) first ∙ ap (λ ls. lexed_of a t ∷ ls) others

pub slices_stay : (bytes : List ℕ) (a b : List (List ℕ)) (ts : List Token) → Keeps a b → HoldsAllNames a ts → All (IsSlice bytes a) ts → All (IsSlice bytes b) ts
slices_stay bytes a b [] h n s = All-nil (IsSlice bytes b)
slices_stay bytes a b (t ∷ ts) h n s =
    let same = lexeme_stays a b t.kind h (All-head (λ t. HoldsNames a t.kind) t ts n) in
    let slice = All-head (IsSlice bytes a) t ts s in
    All-cons (IsSlice bytes b) t ts (slice ∙ ap (λ l. found l (drop t.span.end bytes)) (sym same)) (slices_stay bytes a b ts h (All-tail (λ t. HoldsNames a t.kind) t ts n) (All-tail (IsSlice bytes a) t ts s))

-- one token more
pub rises_on : (from at : ℕ) (ts : List Token) (t : Token) (to : ℕ) → Rises from ts at → t.span.first ≡ at → at < t.span.end → t.span.end ≡ to → Rises from (ts ++ t ∷ []) to
rises_on from at [] t to r e f g = (omega arith, omega arith, omega arith)
rises_on from at (u ∷ ts) t to r e f g = (r.0, r.1, rises_on u.span.end at ts t to r.2 e f g)

-- what follows the last token may be blank
pub rises_to : (from at to : ℕ) (ts : List Token) → Rises from ts at → at ≤ to → Rises from ts to
rises_to from at to [] r e = omega arith
rises_to from at to (u ∷ ts) r e = (r.0, r.1, rises_to u.span.end at to ts r.2 e)

-- an item at a place of the file, as the code answers it
module _ (a b : List (List ℕ)) (bytes rest : List ℕ) (tokens : List Token) (at : ℕ) (keeps : Keeps a b) (held : HoldsAllNames a tokens) (rest_is : rest ≡ drop at bytes) (reads : Reads (length bytes) bytes (map (lexed_of a) tokens) (drop at bytes)) where
  reads_on : Reads (length bytes) bytes (map (lexed_of b) tokens) (drop at bytes)
  reads_on = subst (λ ls. Reads (length bytes) bytes ls (drop at bytes)) (sym (lexed_stay a b tokens keeps held)) reads

  pub blank_reads : (len : ℕ) → blank (drop len rest) ≡ item_at rest → Reads (length bytes) bytes (map (lexed_of b) tokens) (drop (at + len) bytes)
  blank_reads len e =
      let left : drop len rest ≡ drop (at + len) bytes = ap (drop len) rest_is ∙ drop-drop len at bytes in
      let item : item_at (drop at bytes) ≡ blank (drop (at + len) bytes) = ap item_at (sym rest_is) ∙ sym e ∙ ap blank left in
      then_blank (length bytes) bytes (drop at bytes) (drop (at + len) bytes) (map (lexed_of b) tokens) reads_on item

  module _ (t : Token) (len : ℕ) (first_is : t.span.first ≡ at) (end_is : t.span.end ≡ at + len) (same : found (lexeme_of b t.kind) (drop len rest) ≡ item_at rest) where
    item : item_at (drop at bytes) ≡ found (lexeme_of b t.kind) (drop (at + len) bytes)
    item = ap item_at (sym rest_is) ∙ sym same ∙ ap (found (lexeme_of b t.kind)) (ap (drop len) rest_is ∙ drop-drop len at bytes)

    pub token_reads : (tokens' : List Token) → tokens' ≡ tokens ++ t ∷ [] → at + len ≤ length bytes → Reads (length bytes) bytes (map (lexed_of b) tokens') (drop (at + len) bytes)
    token_reads tokens' longer within =
        let size = length bytes in
        let mid = drop at bytes in
        let left = drop (at + len) bytes in
        let first : size - length mid ≡ t.span.first = omega (arith, length-drop at bytes, first_is) in
        let end : size - length left ≡ t.span.end = omega (arith, length-drop (at + len) bytes, end_is) in
        let last : lexed size (lexeme_of b t.kind) mid left ≡ lexed_of b t = rw (first, end) refl in
        let more = then_token size bytes mid left (map (lexed_of b) tokens) (lexeme_of b t.kind) reads_on item in
        let all : map (lexed_of b) tokens ++ lexed size (lexeme_of b t.kind) mid left ∷ [] ≡ map (lexed_of b) tokens' = ap (λ x. map (lexed_of b) tokens ++ x ∷ []) last ∙ sym (map-append (lexed_of b) tokens (t ∷ [])) ∙ ap (map (lexed_of b)) (sym longer) in
        subst (λ ls. Reads size bytes ls left) all more

    pub token_slice : IsSlice bytes b t
    token_slice = rw (first_is, end_is) item
