-- What was read of expressions and declarations, against the reading function's answer.
use Rattle.std.specs.Prelude.{ℕ, ◌≡◌, ◌≤◌, ◌<◌, List, [], ◌∷◌, length, Option, Some, None, map, if◌then◌else◌}
use Rattle.mlc_names.specs.declared.token.Reserved.{Reserved}
use Rattle.mlc_names.specs.declared.token.Reserved.TheVariants as res
use Rattle.mlc_names.specs.declared.token.Token.{Token}
use Rattle.sml_tree.specs.Terminal.{Terminal, LongVid}
use Rattle.sml_tree.specs.BareTree as bare
use Rattle.sml_tree.specs.Bare.{at, bare_exp, bare_pat, bare_dec, is_directive}
use Rattle.sml_tree.specs.TreeOf.{ExpFieldOf, RuleOf, exp_of, dec_of}
use Rattle.sml_tree.specs.ReadTree as read
use Rattle.sml_tree.specs.ReadTree.{Placed, Exps, ExpFields, no_exp_fields, exp_field, Rules, last_rule, rule, Decs, no_decs, dec, exp, no_exps, exp_place, pat_place, constant_exp, vid_exp}
use Rattle.sml_tree.specs.Depth.{depth, depth_decs}
use Rattle.sml_tree.specs.Levels.{level, after}
use Rattle.sml_tree.specs.Fixity.{Fixity, fix_of}
use Rattle.sml_tree.specs.declared.fixity.Infix.{Infix}
use Rattle.sml_tree.specs.declared.ident.Vid.TheVariants.{Equals}
use Rattle.sml_tree.specs.declared.tree.Dec.{Dec}
use Rattle.sml_tree.specs.declared.tree.Exp.{Exp}
use Rattle.sml_grammar.specs.Answer.{Read, Answer, bad, read, then_read, Turn, whole}
use Rattle.sml_grammar.specs.Terminals.{NoState, no_state, Taken, taken, on_some, after_word, word_then, place_at, separated, short, names_vid}
use Rattle.sml_grammar.specs.Expressions.{Reader, AtomStart, constant_start, vid_start, hash_start, brace_start, paren_start, bracket_start, let_start, no_atom, hash_exp, row_turn}
use Rattle.phrase_base.specs.declared.source.Source.{Source}
use Rattle.phrase_base.specs.Left.{left}

-- an expression that begins at i, at most n deep
pub record IsExp (s : Source) (n : ℕ) (i : List Terminal) (e : Exp) (d : ℕ) (o : List Token) (got : Read read.Exp) : Type 0 where
  pub rest : left s o ≡ got.rest
  pub bare : exp_of e ≡ bare_exp s.file got.tree
  pub deep : d ≡ depth got.tree
  pub place : exp_place got.tree ≡ place_at i
  pub fits : depth got.tree ≤ n
  pub shorter : length got.rest < length i

-- an atomic expression, or an application
pub record IsAtom (f : Fixity) (s : Source) (n : ℕ) (i : List Terminal) (e : Exp) (d : ℕ) (o : List Token) (got : Read read.Exp) : Type 0 where
  pub is : IsExp s n i e d o got
  pub high : level f got.tree ≡ 1000

-- a list of phrases, the elements of which stand for those of what was read
pub record IsList {C B : Type 0} (list : B → List C) (depth_of : B → ℕ) (s : Source) (n : ℕ) (i : List Terminal) (xs : List C) (d : ℕ) (o : List Token)
    (got : Read B) : Type 0 where
  pub rest : left s o ≡ got.rest
  pub same : xs ≡ list got.tree
  pub deep : d ≡ depth_of got.tree
  pub fits : depth_of got.tree ≤ n
  pub some : 0 < length xs
  pub shorter : length got.rest < length i

-- expressions parted by a word
abbrev pub exps_turn : Reserved → Reader → Fixity → NoState → List Terminal → Answer (Turn Exps NoState)
exps_turn w self f s i = then_read (self f 0 i) (λ e o. separated (after_word w o) (exp e) (exp e no_exps) s o)

-- expressions parted by a word, and the word that closes them
abbrev pub closed_exps : Reserved → Reserved → Reader → Fixity → List Terminal → Answer Exps
closed_exps w c self f i = then_read (whole (exps_turn w self f) no_state i) (λ es m. word_then c (λ o. read es o) m)

abbrev pub closed_rows : Reader → Fixity → List Terminal → Answer ExpFields
closed_rows self f i = then_read (whole (row_turn self f) no_state i) (λ fs m. word_then res.RightBrace (λ o. read fs o) m)

-- an atomic expression that no bracket begins
abbrev pub leaf_by : AtomStart → Answer read.Exp
leaf_by (constant_start p c o) = read (constant_exp p c) o
leaf_by (vid_start p x o) = read (vid_exp p x) o
leaf_by (hash_start p i) = hash_exp p i
leaf_by (brace_start p i) = bad
leaf_by (paren_start p i) = bad
leaf_by (bracket_start p i) = bad
leaf_by (let_start p i) = bad
leaf_by no_atom = bad

abbrev pub equals_if : Option Infix → ℕ → List Terminal → Option (Taken (Placed LongVid))
equals_if None p o = taken (record { place = p; it = short Equals }) o
equals_if (Some d) p o = None

-- the identifier that an atomic expression is
abbrev pub atom_vid : Fixity → List Terminal → Option (Taken (Placed LongVid))
atom_vid f i = on_some (after_word res.Equals i) (equals_if (fix_of Equals f) (place_at i)) (names_vid f i)

-- what an expression of a level of at least l may be, in an expression that is a with what follows it
pub record IsLarger (f : Fixity) (s : Source) (n : ℕ) (i : List Terminal) (p l : ℕ) (e : Exp) (d : ℕ) (o : List Token) (got : Read read.Exp) : Type 0 where
  pub rest : left s o ≡ got.rest
  pub bare : exp_of e ≡ bare_exp s.file got.tree
  pub deep : d ≡ depth got.tree
  pub place : exp_place got.tree ≡ p
  pub fits : depth got.tree ≤ n
  pub shorter : length got.rest < length i
  pub high : level f got.tree ≡ l

-- directives leave nothing
abbrev pub dec_list : ℕ → Decs → List bare.Dec
dec_list f no_decs = []
dec_list f (dec d ds) = if is_directive d then dec_list f ds else bare_dec f d ∷ dec_list f ds

-- declarations; f' are the fixities after them
pub record IsDecs (f f' : Fixity) (s : Source) (n : ℕ) (i : List Terminal) (ds : List Dec) (d : ℕ) (o : List Token) (got : Read Decs) : Type 0 where
  pub rest : left s o ≡ got.rest
  pub same : map dec_of ds ≡ dec_list s.file got.tree
  pub deep : d ≡ depth_decs got.tree
  pub fits : depth_decs got.tree ≤ n
  pub short : length got.rest ≤ length i
  pub force : f' ≡ after f got.tree

-- the elements of what was read

abbrev pub field_list : ℕ → ExpFields → List ExpFieldOf
field_list f no_exp_fields = []
field_list f (exp_field l e fs) = record { label = l; exp = bare_exp f e } ∷ field_list f fs

abbrev pub rule_list : ℕ → Rules → List RuleOf
rule_list f (last_rule a e) = record { place = at f (pat_place a); pat = bare_pat f a; exp = bare_exp f e } ∷ []
rule_list f (rule a e rs) = record { place = at f (pat_place a); pat = bare_pat f a; exp = bare_exp f e } ∷ rule_list f rs
