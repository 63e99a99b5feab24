-- What was read of declarations, against the reading function's answer.
use Rattle.std.specs.Prelude.{ℕ, zero, suc, ◌≡◌, ◌≤◌, ◌<◌, true, false, List, [], ◌∷◌, length, Option, Some, None, map, max, if◌then◌else◌}
use Rattle.mlc_names.specs.declared.token.Reserved.{Reserved}
use Rattle.mlc_names.specs.declared.token.Reserved.TheVariants as res
use Rattle.mlc_names.specs.declared.token.Token.{Token}
use Rattle.sml_tree.specs.Terminal.{Terminal}
use Rattle.sml_tree.specs.BareTree as bare
use Rattle.sml_tree.specs.Bare.{at, bare_exp, bare_pat, bare_some, bare_dec, is_directive, clauses_place, clauses_vid, clauses_vid_place, clause_list, head_pats}
use Rattle.sml_tree.specs.Derived as derived
use Rattle.sml_tree.specs.TreeOf.{RuleOf, pat_of, dec_of, bind_of, function_of, some_ty_of}
use Rattle.sml_tree.specs.ReadTree as read
use Rattle.sml_tree.specs.ReadTree.{Head, head_place, head_vid, head_vid_place, head_count, pat_place, Binds, last_bind, bind, rec_binds, Clauses}
use Rattle.sml_tree.specs.Depth.{depth_some, depth_head, depth_dec, depth_binds, depth_clauses}
use Rattle.sml_tree.specs.Levels.{after_dec}
use Rattle.sml_tree.specs.Fixity.{Fixity}
use Rattle.sml_tree.specs.declared.tree.Bind.{Bind}
use Rattle.sml_tree.specs.declared.tree.Function.{Function}
use Rattle.sml_tree.specs.declared.tree.Dec.{Dec}
use Rattle.sml_grammar.specs.Answer.{Read, Answer, bad, deep, read, then_read}
use Rattle.sml_grammar.specs.Terminals.{after_word}
use Rattle.sml_grammar.specs.Types.{maybe_ty}
use Rattle.sml_grammar.specs.Patterns.{read_head}
use Rattle.sml_grammar.specs.Bindings.{read_type_binds, read_ex_binds, read_strids, precedence_then}
use Rattle.sml_grammar.specs.Expressions.{DecsReader, Shape, agrees, readers, DecStart, val_start, fun_start, type_start, datatype_start, exception_start, local_start, open_start, infix_start, infixr_start, nonfix_start, no_dec, directive, infix_directive, datatype_form, local_rest}
use Rattle.sml_phrases.specs.declared.headings.Shape as headings
use Rattle.sml_phrases.specs.declared.headings.Heading as Heading
use Rattle.phrase_base.specs.declared.source.Source.{Source}
use Rattle.phrase_base.specs.Left.{left}

-- the reader of the declarations in a `local`, where phrases are at most n deep
abbrev pub inner_decs : ℕ → DecsReader
inner_decs zero = λ f i. deep
inner_decs (suc n) = (readers n).decs

-- a `local` after its first word
abbrev pub local_by : ℕ → Fixity → ℕ → List Terminal → Answer read.Dec
local_by n f p i = then_read ((readers n).decs f i) (local_rest (readers n).decs f p)

-- what a declaration is that begins with a word
abbrev pub word_start : Option Reserved → ℕ → List Terminal → DecStart
word_start (Some res.Val) p o = val_start p o
word_start (Some res.Fun) p o = fun_start p o
word_start (Some res.TypeWord) p o = type_start p o
word_start (Some res.Datatype) p o = datatype_start p o
word_start (Some res.Exception) p o = exception_start p o
word_start (Some res.Local) p o = local_start p o
word_start (Some res.Open) p o = open_start p o
word_start (Some res.Infix) p o = infix_start p o
word_start (Some res.Infixr) p o = infixr_start p o
word_start (Some res.Nonfix) p o = nonfix_start p o
word_start _ p o = no_dec

-- a declaration in which there are no expressions
abbrev pub simple_by : ℕ → Fixity → DecStart → Answer read.Dec
simple_by n f (type_start p i) = then_read (read_type_binds n i) (λ bs o. read (read.type_dec p bs) o)
simple_by n f (datatype_start p i) = datatype_form n f p i
simple_by n f (exception_start p i) = then_read (read_ex_binds n f i) (λ bs o. read (read.exception_dec p bs) o)
simple_by n f (open_start p i) = then_read (read_strids i) (λ xs o. read (read.open_dec p xs) o)
simple_by n f (infix_start p i) = precedence_then (infix_directive p false) i
simple_by n f (infixr_start p i) = precedence_then (infix_directive p true) i
simple_by n f (nonfix_start p i) = directive p None i
simple_by n f (val_start p i) = bad
simple_by n f (fun_start p i) = bad
simple_by n f (local_start p i) = bad
simple_by n f no_dec = bad

-- directives leave nothing
abbrev pub item_of : Option Dec → List bare.Dec
item_of None = []
item_of (Some d) = dec_of d ∷ []

abbrev pub bare_item : ℕ → read.Dec → List bare.Dec
bare_item f d = if is_directive d then [] else bare_dec f d ∷ []

-- a declaration; f' are the fixities after it
pub record IsDec (f f' : Fixity) (s : Source) (n : ℕ) (i : List Terminal) (d : Option Dec) (e : ℕ) (o : List Token) (got : Read read.Dec) : Type 0 where
  pub rest : left s o ≡ got.rest
  pub same : item_of d ≡ bare_item s.file got.tree
  pub deep : e ≡ depth_dec got.tree
  pub fits : depth_dec got.tree ≤ n
  pub shorter : length got.rest < length i
  pub force : f' ≡ after_dec f got.tree

-- the bindings before `rec`, all, and those after `rec`
abbrev pub plain_list : ℕ → Binds → List RuleOf
plain_list f (last_bind a e) = record { place = at f (pat_place a); pat = bare_pat f a; exp = bare_exp f e } ∷ []
plain_list f (bind a e bs) = record { place = at f (pat_place a); pat = bare_pat f a; exp = bare_exp f e } ∷ plain_list f bs
plain_list f (rec_binds bs) = []

abbrev pub bind_list : ℕ → Binds → List RuleOf
bind_list f (last_bind a e) = record { place = at f (pat_place a); pat = bare_pat f a; exp = bare_exp f e } ∷ []
bind_list f (bind a e bs) = record { place = at f (pat_place a); pat = bare_pat f a; exp = bare_exp f e } ∷ bind_list f bs
bind_list f (rec_binds bs) = bind_list f bs

abbrev pub recursive_list : ℕ → Binds → List RuleOf
recursive_list f (last_bind a e) = []
recursive_list f (bind a e bs) = recursive_list f bs
recursive_list f (rec_binds bs) = bind_list f bs

pub record IsBinds (s : Source) (n : ℕ) (i : List Terminal) (ps rs : List Bind) (d : ℕ) (o : List Token) (got : Read Binds) : Type 0 where
  pub rest : left s o ≡ got.rest
  pub plain : map bind_of ps ≡ plain_list s.file got.tree
  pub recursive : map bind_of rs ≡ recursive_list s.file got.tree
  pub deep : d ≡ depth_binds got.tree
  pub fits : depth_binds got.tree ≤ n
  pub shorter : length got.rest < length i

-- the head of a clause, and the type of its result
pub record HeadingRead : Type 0 where
  pub head : Head
  pub ty : Option read.Ty

abbrev pub read_heading : ℕ → Fixity → Option Shape → List Terminal → Answer HeadingRead
read_heading n f s i =
    then_read (read_head n f i)
    (λ h m. if agrees s h then then_read (maybe_ty n (after_word res.Colon m) m) (λ t o. read (record { head = h; ty = t }) o) else bad)

-- what the clauses before have, in the code's terms
abbrev pub shape_from : Option headings.Shape → Option Shape
shape_from None = None
shape_from (Some x) = Some (record { vid = x.vid; count = x.count })

pub record IsHeading (shape : Option headings.Shape) (s : Source) (n : ℕ) (i : List Terminal) (h : Heading.Heading) (d : ℕ) (o : List Token)
    (got : Read HeadingRead) : Type 0 where
  pub rest : left s o ≡ got.rest
  pub place : h.shape.place ≡ at s.file (head_place got.tree.head)
  pub vid_place : h.shape.vid_place ≡ at s.file (head_vid_place got.tree.head)
  pub vid : h.shape.vid ≡ head_vid got.tree.head
  pub count : h.shape.count ≡ head_count got.tree.head
  pub pats : map pat_of h.pats.items ≡ head_pats s.file got.tree.head
  pub ty : some_ty_of h.ty ≡ bare_some s.file got.tree.ty
  pub deep : d ≡ max (depth_head got.tree.head) (depth_some got.tree.ty)
  pub fits : max (depth_head got.tree.head) (depth_some got.tree.ty) ≤ n
  pub shorter : length got.rest < length i
  pub agrees : agrees (shape_from shape) got.tree.head ≡ true

-- the function that clauses define
abbrev pub function_from : ℕ → Clauses → derived.Function
function_from f cs = record { place = at f (clauses_place cs); vid_place = at f (clauses_vid_place cs); vid = clauses_vid cs; clauses = clause_list f cs }

pub record IsFunction (s : Source) (n : ℕ) (i : List Terminal) (g : Function) (d : ℕ) (o : List Token) (got : Read Clauses) : Type 0 where
  pub rest : left s o ≡ got.rest
  pub same : function_of g ≡ function_from s.file got.tree
  pub deep : d ≡ depth_clauses got.tree
  pub fits : depth_clauses got.tree ≤ n
  pub shorter : length got.rest < length i
