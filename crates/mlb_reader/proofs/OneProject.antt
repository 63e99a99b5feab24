-- The files at a path give one project: its tokens are one list, their names have one number each in the one table after them, and its terminals have one tree.
use Rattle.std.proofs.Common.{◌≡◌, ℕ, zero, suc, ◌+◌, ◌<◌, true, false, not, if◌then◌else◌, List, [], ◌∷◌, ◌++◌, length, map, drop, Some, refl, sym, ap, subst, ◌∙◌, arith, All}
use Rattle.std.specs.Prelude.{nat_eq}
use Rattle.std.specs.FinMap.{get}
use Rattle.std.specs.List.{flat_map}
use Rattle.std.specs.Str.{bytes_eq}
use Rattle.std.proofs.lemmas.Bool.{false_from_ne_true}
use Rattle.std.proofs.lemmas.Slice.Eq.{bytes_eq-Decides}
use Rattle.std.proofs.Math.Seq.{drop-append_seam}
use Rattle.mlc_faults.specs.File.{File}
use Rattle.mlc_names.specs.StandardWords.{word_times, word_it}
use Rattle.mlc_names.specs.declared.token.Token.{Token}
use Rattle.mlc_names.specs.declared.token.TokenKind.{TokenKind}
use Rattle.mlc_names.specs.declared.token.TokenKind.TheVariants as kind
use Rattle.mlc_names.proofs.NamesLemmas.{AreApart, with_texts-apart, standard_words-apart}
use Rattle.mlc_outside.specs.Files.{Files}
use Rattle.sml_lexer.specs.Lexeme.{Lexeme, lexeme_of, text_of, HoldsNames, words_in}
use Rattle.sml_lexer.specs.Lexeme as lexeme
use Rattle.sml_lexer.specs.Lexes.{Lexed, lexed_of, HoldsAllNames, OneReading, names_after}
use Rattle.sml_tree.specs.Fixity.{Fixity}
use Rattle.module_tree.specs.ModuleBare.{bare_tops}
use Rattle.module_tree.specs.ModuleGrammar as modules
use Rattle.module_tree.specs.Scope.{after_tops}
use Rattle.sml_tree.specs.Terminal.{Terminal, reserved, number, constant, alpha, symbol, star, long_alpha, long_symbol, long_star, type_var, word, char, string, terminal_at, terminal_of, terminals}
use Rattle.module_grammar.specs.Laws.{OneTree}
use Rattle.mlb_reader.specs.Parts.{Part}
use Rattle.mlb_reader.specs.Laws.{OneProject}
use Rattle.mlb_reader.specs.Mlb.{Item, Reads, no_more, a_blank, a_path, IsPath, is_parted, basis_path, has_variable}
use Rattle.mlb_reader.specs.Project.{IsSource, Loaded, Loads, no_item, the_basis, a_source, with_basis, with_source, begun}
use Rattle.mlb_reader.specs.Reading.{is_no_blank}
use Rattle.mlb_reader.specs.Tops.{part_of_tops}
use Rattle.mlb_reader.proofs.MlbLemmas.{after-blank, path-head, begins-is-front}

-- A name by its text.

-- where the text stands in a table
abbrev place_of : List (List ℕ) → List ℕ → ℕ
place_of [] text = 0
place_of (t ∷ texts) text = if bytes_eq t text then 0 else suc (place_of texts text)

apart-rest : (t : List ℕ) (texts : List (List ℕ)) → AreApart (t ∷ texts) → AreApart texts
apart-rest t texts h = λ i j d ij jl. h (suc i) (suc j) d (omega (arith, ij)) (omega (arith, jl))

found : (names : List (List ℕ)) (x : ℕ) → AreApart names → x < length names → place_of names (text_of names x) ≡ x
found [] x apart within = absurd (omega (arith, within))
found (t ∷ texts) zero apart within = ap (λ b. if b then 0 else suc (place_of texts t)) ((bytes_eq-Decides t t).1 refl)
found (t ∷ texts) (suc x) apart within =
    let text = text_of texts x in
    let differs : bytes_eq t text ≡ false = false_from_ne_true (bytes_eq t text) (λ b. apart 0 (suc x) [] (omega arith) (omega (arith, within)) ((bytes_eq-Decides t text).0 b)) in
    ap (λ b. if b then 0 else suc (place_of texts text)) differs ∙ ap suc (found texts x (apart-rest t texts apart) (omega (arith, within)))

all-found : (names : List (List ℕ)) (qs : List ℕ) → AreApart names → All (λ q. q < length names) qs → map (place_of names) (map (text_of names) qs) ≡ qs
all-found names [] apart h = refl
all-found names (q ∷ qs) apart h =
    ap (λ z. z ∷ map (place_of names) (map (text_of names) qs)) (found names q apart (h 0 q (omega arith)))
    ∙ ap (λ zs. q ∷ zs) (all-found names qs apart (λ k d within. h (suc k) d (omega (arith, within))))

-- Terminals from lexemes.

abbrev terminal_from : List (List ℕ) → ℕ → Lexeme → Terminal
terminal_from names p (lexeme.reserved r) = reserved p r
terminal_from names p (lexeme.int value plain) = number p value plain
terminal_from names p (lexeme.word w) = constant p (word w)
terminal_from names p (lexeme.char c) = constant p (char c)
terminal_from names p (lexeme.string s) = constant p (string s)
terminal_from names p (lexeme.ident text) = alpha p (place_of names text)
terminal_from names p (lexeme.symbol text) = if nat_eq (place_of names text) word_times then star p (place_of names text) else symbol p (place_of names text)
terminal_from names p (lexeme.long_ident qs text) = long_alpha p (map (place_of names) qs) (place_of names text)
terminal_from names p (lexeme.long_symbol qs text) = if nat_eq (place_of names text) word_times then long_star p (map (place_of names) qs) (place_of names text) else long_symbol p (map (place_of names) qs) (place_of names text)
terminal_from names p (lexeme.type_var text) = type_var p (record { name = place_of names text; equality = false })
terminal_from names p (lexeme.eq_type_var text) = type_var p (record { name = place_of names text; equality = true })

kind-terminal : (names : List (List ℕ)) (p : ℕ) (k : TokenKind) → AreApart names → HoldsNames names k → terminal_from names p (lexeme_of names k) ≡ terminal_at word_times p k
kind-terminal names p (kind.Reserved r) apart h = refl
kind-terminal names p (kind.Int value plain) apart h = refl
kind-terminal names p (kind.Word w) apart h = refl
kind-terminal names p (kind.Char c) apart h = refl
kind-terminal names p (kind.Str s) apart h = refl
kind-terminal names p (kind.Ident x) apart h = ap (λ z. alpha p z) (found names x apart h)
kind-terminal names p (kind.Symbol x) apart h = ap (λ z. if nat_eq z word_times then star p z else symbol p z) (found names x apart h)
kind-terminal names p (kind.LongIdent qs x) apart h =
    ap (λ zs. long_alpha p zs (place_of names (text_of names x))) (all-found names qs.items apart h.0) ∙ ap (λ z. long_alpha p qs.items z) (found names x apart h.1)
kind-terminal names p (kind.LongSymbol qs x) apart h =
    ap (λ zs. if nat_eq (place_of names (text_of names x)) word_times then long_star p zs (place_of names (text_of names x)) else long_symbol p zs (place_of names (text_of names x))) (all-found names qs.items apart h.0)
    ∙ ap (λ z. if nat_eq z word_times then long_star p qs.items z else long_symbol p qs.items z) (found names x apart h.1)
kind-terminal names p (kind.TypeVar x) apart h = ap (λ z. type_var p (record { name = z; equality = false })) (found names x apart h)
kind-terminal names p (kind.EqTypeVar x) apart h = ap (λ z. type_var p (record { name = z; equality = true })) (found names x apart h)

abbrev lexed_terminal : List (List ℕ) → Lexed → Terminal
lexed_terminal names l = terminal_from names l.span.first l.lexeme

all-terminals : (names : List (List ℕ)) (tokens : List Token) → AreApart names → HoldsAllNames names tokens → map (lexed_terminal names) (map (lexed_of names) tokens) ≡ terminals word_times tokens
all-terminals names [] apart h = refl
all-terminals names (t ∷ tokens) apart h =
    ap (λ z. z ∷ map (lexed_terminal names) (map (lexed_of names) tokens)) (kind-terminal names t.span.first t.kind apart (h 0 t (omega arith)))
    ∙ ap (λ zs. terminal_of word_times t ∷ zs) (all-terminals names tokens apart (λ k d within. h (suc k) d (omega (arith, within))))

-- The paths of an ML Basis file.

no-paths : (at : ℕ) (text : List ℕ) (items : List Item) → Reads at text items → text ≡ [] → [] ≡ items
no-paths at text items (no_more n) e = refl
no-paths at text items (a_blank n c {i = j} k r) e = absurd (let no : c ∷ j ≡ [] = e in cc)
no-paths at text items (a_path n [] p q r) e = absurd (p.some refl)
no-paths at text items (a_path n (c ∷ path) {i = j} p q r) e = absurd (let no : c ∷ (path ++ j) ≡ [] = e in cc)

path-again : (at : ℕ) (path i text : List ℕ) (items : List Item) → Reads at text items → text ≡ path ++ i → IsPath path → is_parted i ≡ true →
    (later : List Item) × Reads (at + length path) i later × (record { byte = at; word = path } ∷ later ≡ items)
path-again at [] i text items r e p q = absurd (p.some refl)
path-again at (c ∷ path) i text items (no_more n) e p q = absurd (let no : [] ≡ c ∷ (path ++ i) = e in cc)
path-again at (c ∷ path) i text items (a_blank n b {i = j} k r) e p q =
    let t : is_no_blank b ≡ true = path-head (c ∷ path) i b j p (sym e) in
    let u : is_no_blank b ≡ false = ap not k in
    absurd (let no : true ≡ false = sym t ∙ u in cc)
path-again at (c ∷ path) i text items (a_path n other {i = j} {items = later} p' q' r) e p q =
    let w = c ∷ path in
    let same : other ≡ w =
    begins-is-front (other ++ j) other (record { rest = j; stands = refl; is = p'; parted = q' }) ∙ sym (begins-is-front (other ++ j) w (record { rest = i; stands = e; is = p; parted = q })) in
    let rest : j ≡ i = sym (drop-append_seam other j) ∙ ap (drop (length other)) e ∙ ap (λ n. drop n (w ++ i)) (ap length same) ∙ drop-append_seam w i in (
      later,
      subst (λ t. Reads (at + length w) t later) rest (subst (λ z. Reads (at + length z) j later) same r),
      ap (λ z. record { byte = at; word = z } ∷ later) (sym same),
    )

one-list : (at : ℕ) (text : List ℕ) (items items' : List Item) → Reads at text items → Reads at text items' → items ≡ items'
one-list at text items items' (no_more n) r' = no-paths at [] items' r' refl
one-list at text items items' (a_blank n b {i = i} k r) r' = one-list (at + 1) i items items' r (after-blank at b i (b ∷ i) items' r' refl k)
one-list at text items items' (a_path n path {i = i} {items = later} p q r) r' =
    let again = path-again at path i (path ++ i) items' r' refl p q in
    ap (λ z. record { byte = at; word = path } ∷ z) (one-list (at + length path) i later again.0 r again.1) ∙ again.2

-- One source, and what is loaded.

two-files : (a b : File) → a.path ≡ b.path → a.bytes ≡ b.bytes → a ≡ b
two-files a b e h = ap (λ z. record { path = z; bytes = a.bytes }) e ∙ ap (λ z. record { path = b.path; bytes = z }) h

same-bytes : (files : Files) (a b : File) → a.path ≡ b.path → get files a.path ≡ Some a.bytes → get files b.path ≡ Some b.bytes → a ≡ b
same-bytes files a b e h k = two-files a b e (let both : Some a.bytes ≡ Some b.bytes = sym h ∙ ap (get files) e ∙ k in cc)

same-source : (s : Loaded) (a b : File) (p q : Part) (names names' : List (List ℕ)) (f g : Fixity) → a ≡ b → p ≡ q → names ≡ names' → f ≡ g → with_source a p names f s ≡ with_source b q names' g s
same-source s a b p q names names' f g ab pq nn fg =
    ap (λ z. with_source z p names f s) ab ∙ ap (λ z. with_source b z names f s) pq ∙ ap (λ z. with_source b q z f s) nn ∙ ap (λ z. with_source b q names' z s) fg

module _ (one_reading : OneReading) (one_tree : OneTree) where
  module _ (names : List (List ℕ)) (n : ℕ) (f : Fixity) (bytes : List ℕ) (apart : AreApart names) where
    table-apart : {p : Part} {names' : List (List ℕ)} {f' : Fixity} → IsSource names n f bytes p names' f' → AreApart names'
    table-apart {names' = names'} a =
        subst AreApart (sym a.has_tokens.table) (with_texts-apart names (flat_map (λ token. words_in token.lexeme) (map (lexed_of names') a.tokens)) apart)

    module _ {p q : Part} {names' names'' : List (List ℕ)} {f' f'' : Fixity} (a : IsSource names n f bytes p names' f') (b : IsSource names n f bytes q names'' f'') where
      one-lexing : map (lexed_of names') a.tokens ≡ map (lexed_of names'') b.tokens
      one-lexing = one_reading bytes (map (lexed_of names') a.tokens) (map (lexed_of names'') b.tokens) a.has_tokens.lexes b.has_tokens.lexes

      one-table : names' ≡ names''
      one-table = a.has_tokens.table ∙ ap (names_after names) one-lexing ∙ sym b.has_tokens.table

      one-text : terminals word_times a.tokens ≡ terminals word_times b.tokens
      one-text =
          sym (all-terminals names' a.tokens (table-apart a) a.has_tokens.held)
          ∙ ap (map (lexed_terminal names')) one-lexing
          ∙ ap (λ t. map (lexed_terminal t) (map (lexed_of names'') b.tokens)) one-table
          ∙ all-terminals names'' b.tokens (table-apart b) b.has_tokens.held

      same-tree : a.tree ≡ b.tree
      same-tree = one_tree f (terminals word_times a.tokens) a.tree b.tree a.is.0 (subst (λ i. modules.IsSource f i b.tree) (sym one-text) b.is.0)

      same-part : p ≡ q
      same-part = a.bare ∙ ap (λ t. part_of_tops (bare_tops word_it n t)) same-tree ∙ sym b.bare

      same-fixities : f' ≡ f''
      same-fixities = a.after ∙ ap (after_tops f) same-tree ∙ sym b.after

  -- the path of the standard basis is no source's
  no-variable : (item : Item) → item.word ≡ basis_path → has_variable item.word ≡ false → ⊥
  no-variable item e h = let no : true ≡ false = sym (ap has_variable e) ∙ h in cc

  one-load : (files : Files) (mlb : List ℕ) (s t t' : Loaded) (items : List Item) → AreApart s.names → Loads files mlb s items t → Loads files mlb s items t' → t ≡ t'
  one-load files mlb s t t' items apart (no_item s0) (no_item s1) = refl
  one-load files mlb s t t' items apart (the_basis {items = rest} e l) (the_basis e' l') = one-load files mlb (with_basis s) t t' rest apart l l'
  one-load files mlb s t t' items apart (the_basis {item = item} e l) (a_source file r is l') = absurd (no-variable item e r.may.no_variable)
  one-load files mlb s t t' items apart (a_source {item = item} file r is l) (the_basis e l') = absurd (no-variable item e r.may.no_variable)
  one-load files mlb s t t' items apart (a_source {items = rest} file {part = p} {names = names} {f = f} r is l) (a_source file' {part = q} {names = names'} {f = g} r' is' l') =
      let n = length s.reads in
      let same : file ≡ file' = same-bytes files file file' (r.path ∙ sym r'.path) r.has r'.has in
      let is'' : IsSource s.names n s.fixities file.bytes q names' g = subst (λ z. IsSource s.names n s.fixities z.bytes q names' g) (sym same) is' in
      let loaded = same-source s file file' p q names names' f g same (same-part s.names n s.fixities file.bytes apart is is'') (one-table s.names n s.fixities file.bytes apart is is'') (same-fixities s.names n s.fixities file.bytes apart is is'') in
      one-load files mlb (with_source file p names f s) t t' rest (table-apart s.names n s.fixities file.bytes apart is) l (subst (λ z. Loads files mlb z rest t') (sym loaded) l')

  pub one-project : OneProject
  one-project files input names names' parts parts' reads reads' a b =
      let file : a.file ≡ b.file = same-bytes files a.file b.file (a.has_mlb.path ∙ sym b.has_mlb.path) a.has_mlb.has b.has_mlb.has in
      let items : a.items ≡ b.items = one-list 0 b.file.bytes a.items b.items (subst (λ z. Reads 0 z.bytes a.items) file a.has_mlb.is) b.has_mlb.is in
      let loads : Loads files b.file.path (begun b.file) b.items a.last = subst (λ z. Loads files b.file.path (begun b.file) z a.last) items (subst (λ z. Loads files z.path (begun z) a.items a.last) file a.loads) in
      let last : a.last ≡ b.last = one-load files b.file.path (begun b.file) a.last b.last b.items standard_words-apart loads b.loads in (
        a.names_are ∙ ap (λ z. z.names) last ∙ sym b.names_are,
        a.parts_are ∙ ap (λ z. z.parts) last ∙ sym b.parts_are,
        a.reads_are ∙ ap (λ z. z.reads) last ∙ sym b.reads_are,
      )
