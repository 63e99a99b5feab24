-- Names in sources are held, and their places lie in files.
use Rattle.std.proofs.Common.{◌≡◌, ℕ, ◌<◌, ◌≤◌, List, [], ◌∷◌, ◌++◌, length, map, take, drop, min, get_or, All, Some, None, refl, ap, subst, sym, ◌∙◌, arith}
use Rattle.std.specs.Prelude.{⊤}
use Rattle.std.specs.Option.{ForSome}
use Rattle.std.proofs.lemmas.Bool.{ltb-true}
use Rattle.std.proofs.lemmas.List.{get_or_default, length-take, take-append-drop, take-append-le}
use Rattle.std.proofs.lemmas.List.Elements.{All-weaker}
use Rattle.mlc_faults.specs.File.{File}
use Rattle.mlc_faults.specs.Files.{LiesIn}
use Rattle.mlc_base.specs.declared.place.Place.{Place}
use Rattle.mlc_names.specs.declared.token.Token.{Token}
use Rattle.mlc_names.specs.declared.token.TokenKind.{TokenKind}
use Rattle.mlc_names.specs.declared.token.TokenKind.TheVariants as kind
use Rattle.mlc_names.specs.StandardWords.{standard_words, word_it}
use Rattle.sml_lexer.specs.Lexeme.{HoldsNames}
use Rattle.sml_lexer.specs.Lexes.{HoldsAllNames, Rises}
use Rattle.sml_lexer.specs.NameTable.{Keeps}
use Rattle.sml_lexer.proofs.NameLemmas.{keeps_no_fewer}
use Rattle.sml_tree.specs.Fixity.{Fixity}
use Rattle.sml_tree.specs.TreeOf.{dec_of}
use Rattle.sml_tree.specs.declared.tree.Dec.{Dec}
use Rattle.sml_modparse.specs.Programs.{IsProgram}
use Rattle.module_tree.specs.ModuleBare.{bare_tops}
use Rattle.module_code.specs.TreeOf.{top_of}
use Rattle.module_code.specs.declared.sources.Top.{Top}
use Rattle.phrase_base.specs.Left.{left}
use Rattle.phrase_base.specs.declared.source.Source.{Source}
use Rattle.mlb_reader.specs.Table.{IsTable}
use Rattle.mlb_reader.specs.Parts.{Part, standard_basis}
use Rattle.mlc_names.proofs.NamesLemmas.{standard_words-apart}
use Rattle.mlb_reader.specs.Loading.{Grows, IsKnown, IsPlaceOf}
use Rattle.mlb_reader.specs.Project.{Loaded, most_bytes}
use Rattle.mlb_reader.specs.Tops.{part_of_tops}
use Rattle.mlb_reader.specs.Within.{PartIn, AllPlacedIn, HoldsAll}
use Rattle.mlb_reader.proofs.FileLemmas.{lies-grown, lies-last}
use Rattle.mlb_reader.proofs.SourceLemmas.{token-within}
use Rattle.mlb_reader.proofs.Within.{part-holds, part-placed}
use Rattle.mlb_reader.proofs.WithinChains.{each-append}
use Rattle.mlb_reader.proofs.WithinTokens.{kind_name, terminals-hold, terminals-placed}
use Rattle.mlb_reader.proofs.WithinWeaker.{parts-weaker}

-- One source.

none-held : (count : ℕ) → ForSome None (λ n. n < count)
none-held count x e = absurd (let no : None ≡ Some x = e in cc)

some-held : (count n : ℕ) → n < count → ForSome (Some n) (λ n. n < count)
some-held count n h x e = let same : n ≡ x = cc in subst (λ m. m < count) same h

kind-holds : (texts : List (List ℕ)) (k : TokenKind) → HoldsNames texts k → ForSome (kind_name k) (λ n. n < length texts)
kind-holds texts (kind.Reserved r) h = none-held (length texts)
kind-holds texts (kind.Int value plain) h = none-held (length texts)
kind-holds texts (kind.Word w) h = none-held (length texts)
kind-holds texts (kind.Char c) h = none-held (length texts)
kind-holds texts (kind.Str s) h = none-held (length texts)
kind-holds texts (kind.Ident x) h = some-held (length texts) x h
kind-holds texts (kind.Symbol x) h = some-held (length texts) x h
kind-holds texts (kind.LongIdent qs x) h = some-held (length texts) x h.1
kind-holds texts (kind.LongSymbol qs x) h = some-held (length texts) x h.1
kind-holds texts (kind.TypeVar x) h = none-held (length texts)
kind-holds texts (kind.EqTypeVar x) h = none-held (length texts)

module _ (it : ℕ) (s : Source) (f f' : Fixity) (tokens : List Token) (tops : List (Top Dec)) (h : IsProgram it f s tokens tops f') (part : Part) (same : part ≡ part_of_tops (map (top_of dec_of) tops)) where
  part-is : part ≡ part_of_tops (bare_tops it s.file h.tree)
  part-is = same ∙ ap part_of_tops h.bare

  pub source-holds : (texts : List (List ℕ)) → it < length texts → HoldsAllNames texts tokens → HoldsAll (length texts) (part ∷ [])
  source-holds texts named held =
      let kinds = All-weaker (λ (t : Token). HoldsNames texts t.kind) (λ t. ForSome (kind_name t.kind) (λ n. n < length texts)) (λ t k. kind-holds texts t.kind k) tokens held in
      subst (λ p. HoldsAll (length texts) (p ∷ [])) (sym part-is) (part-holds (length texts) it s.file f (left s tokens) h.tree h.is.0 named (terminals-hold (length texts) s.star tokens kinds))

  pub source-placed : (size : ℕ) → Rises 0 tokens size → AllPlacedIn (IsPlaceOf s.file size) (part ∷ [])
  source-placed size rises =
      let within : All (λ (t : Token). IsPlaceOf s.file size (record { file = s.file; byte = t.span.first })) tokens = λ k d lt. (refl, token-within 0 size tokens k (get_or tokens k d) rises lt (get_or_default tokens k d _ lt)) in
      subst (λ p. AllPlacedIn (IsPlaceOf s.file size) (p ∷ [])) (sym part-is)
      (part-placed (IsPlaceOf s.file size) it s.file f (left s tokens) h.tree h.is.0 (terminals-placed (λ p. IsPlaceOf s.file size (record { file = s.file; byte = p })) s.star tokens within))

-- What was loaded.

more-hold : (a b : ℕ) (xs : List Part) → a ≤ b → HoldsAll a xs → HoldsAll b xs
more-hold a b xs le h = parts-weaker (λ p. ⊤) (λ p. ⊤) (λ n. n < a) (λ n. n < b) (λ p t. t) (λ n lt. omega (arith, lt, le)) xs h

more-placed : (P Q : Place → Type 0) (xs : List Part) → ((p : Place) → P p → Q p) → AllPlacedIn P xs → AllPlacedIn Q xs
more-placed P Q xs w h = parts-weaker P Q (λ n. ⊤) (λ n. ⊤) w (λ n t. t) xs h

module _ (b : List (List ℕ)) (s : Loaded) (keeps : Keeps s.names b) (table : IsTable b) (known : IsKnown s) (reads : List File) (grows : Grows s.reads reads) where
  more-known : (fixities : Fixity) (parts : List Part) → HoldsAll (length b) parts → AllPlacedIn (λ place. LiesIn place reads) parts → IsKnown (record { names = b; fixities = fixities; parts = s.parts ++ parts; reads = reads })
  more-known fixities parts held placed = record {
    table = table;
    held = each-append (PartIn (λ p. ⊤) (λ n. n < length b)) s.parts parts (more-hold (length s.names) (length b) s.parts (keeps_no_fewer s.names b keeps) known.held) held;
    placed = each-append (PartIn (λ place. LiesIn place reads) (λ n. ⊤)) s.parts parts
        (more-placed (λ place. LiesIn place s.reads) (λ place. LiesIn place reads) s.parts (λ place lies. lies-grown place s.reads reads grows lies) known.placed) placed;
  }

  pub basis-known : (fixities : Fixity) (e : Loaded) → e ≡ record { names = b; fixities = fixities; parts = s.parts ++ standard_basis ∷ []; reads = reads } → IsKnown e
  basis-known fixities e same = subst IsKnown (sym same) (more-known fixities (standard_basis ∷ []) (tt, tt) (tt, tt))

  pub source-known : (fixities : Fixity) (part : Part) (file : File) (number size : ℕ) (e : Loaded) → reads ≡ s.reads ++ file ∷ [] → number ≡ length s.reads → size ≡ length file.bytes → length file.bytes ≤ most_bytes →
      HoldsAll (length b) (part ∷ []) → AllPlacedIn (IsPlaceOf number size) (part ∷ []) → e ≡ record { names = b; fixities = fixities; parts = s.parts ++ part ∷ []; reads = reads } → IsKnown e
  source-known fixities part file number size e added at sized small held placed same =
      let lies = more-placed (IsPlaceOf number size) (λ place. LiesIn place reads) (part ∷ []) (λ place h. lies-last place s.reads reads file added (h.0 ∙ at) (omega (arith, h.1, sized)) small) placed in
      subst IsKnown (sym same) (more-known fixities (part ∷ []) held lies)

pub nothing-known : (s : Loaded) → IsTable s.names → s.parts ≡ [] → IsKnown s
nothing-known s table e = record {
  table = table;
  held = subst (HoldsAll (length s.names)) (sym e) tt;
  placed = subst (AllPlacedIn (λ place. LiesIn place s.reads)) (sym e) tt;
}

-- Tables.

-- the standard words by themselves are one
pub standard-table : (names : List (List ℕ)) → names ≡ standard_words → IsTable names
standard-table names is = subst IsTable (sym is) (record { apart = standard_words-apart; begins = refl })

-- every table has a number for `it`
pub it-held : (a b : List (List ℕ)) (it : ℕ) → it ≡ word_it → IsTable a → Keeps a b → it < length b
it-held a b it named table keeps =
    let first : word_it < length standard_words = ltb-true word_it (length standard_words) refl in
    let least : min (length standard_words) (length a) ≡ length standard_words = sym (length-take (length standard_words) a) ∙ ap length table.begins in
    omega (arith, named, first, least, keeps_no_fewer a b keeps)

pub table-stays : (a b : List (List ℕ)) → Keeps a b → IsTable a → IsTable b
table-stays a b keeps table = record { apart = keeps.apart table.apart; begins = front-stays standard_words a b table.begins keeps }
  where
    front-stays : (front a b : List (List ℕ)) → take (length front) a ≡ front → Keeps a b → take (length front) b ≡ front
    front-stays front a b h keeps =
        let more : b ≡ a ++ drop (length a) b = sym (take-append-drop (length a) b) ∙ ap (λ t. t ++ drop (length a) b) keeps.held in
        let least : min (length front) (length a) ≡ length front = sym (length-take (length front) a) ∙ ap length h in
        let enough : length front ≤ length a = omega (arith, least) in
        ap (take (length front)) more ∙ take-append-le (length front) a (drop (length a) b) enough ∙ h
