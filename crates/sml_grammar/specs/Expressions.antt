-- How expressions and declarations are read. `(readers n).exp f l` reads an expression of a level of at least l that is at most n deep,
-- `(readers n).atom f` an atomic one, and `(readers n).decs f` declarations.
use Rattle.std.specs.Prelude.{ℕ, zero, suc, List, [], ◌∷◌, Option, Some, None, Bool, true, false, ◌||◌, ◌&&◌, nat_eq, nat_le, if◌then◌else◌}
use Rattle.mlc_names.specs.declared.token.Reserved.TheVariants as res
use Rattle.sml_tree.specs.Terminal.{Constant, int, LongVid, Terminal, reserved, number, constant}
use Rattle.sml_tree.specs.declared.ident.Vid.{Vid}
use Rattle.sml_tree.specs.declared.ident.Vid.TheVariants.{Named, Equals}
use Rattle.sml_tree.specs.declared.fixity.Infix.{Infix}
use Rattle.sml_tree.specs.Fixity.{Fixity, fix_of, is_vid}
use Rattle.sml_tree.specs.ReadTree.{Placed, Ty, Joint, and_also, or_else, infixed, Head, head_vid, head_count, DataBind, Exp, constant_exp, vid_exp, record_exp, selector, unit_exp, tuple_exp, list_exp, sequence, paren_exp, let_in, app, chain, typed, handle, raise, if_then, while, case, fn, Exps, no_exps, exp, ExpFields, no_exp_fields, exp_field, Parts, last_part, part, Rules, last_rule, rule, Decs, no_decs, dec, Dec, val_dec, fun_dec, type_dec, datatype_dec, withtype_dec, replicate_dec, exception_dec, local_dec, open_dec, fixity_dec, Binds, last_bind, bind, rec_binds, Funs, last_fun, fun_and, Clauses, last_clause, clause}
use Rattle.sml_tree.specs.Depth.{depth}
use Rattle.sml_tree.specs.Levels.{after, after_dec, joint_level, joint_right, level}
use Rattle.sml_grammar.specs.Answer.{Answer, bad, deep, read, then_read, deep_if, Turn, last, more, whole}
use Rattle.sml_grammar.specs.Terminals.{Taken, taken, place_at, first_as, as_label, as_tycon, as_long_tycon, after_word, on_some, on_taken, then_taken, word_then, separated, NoState, no_state, infix_vid, names_vid, short}
use Rattle.sml_grammar.specs.Types.{read_ty, maybe_ty}
use Rattle.sml_grammar.specs.Patterns.{same, label_equals, read_pat, read_head}
use Rattle.sml_grammar.specs.Bindings.{read_tyvars, tyvars_place, read_type_binds, read_data_binds, read_ex_binds, read_strids, read_vids, precedence_then}

abbrev pub Reader : Type 0
Reader = Fixity → ℕ → List Terminal → Answer Exp

abbrev pub AtomReader : Type 0
AtomReader = Fixity → List Terminal → Answer Exp

abbrev pub DecsReader : Type 0
DecsReader = Fixity → List Terminal → Answer Decs

pub record Readers : Type 0 where
  pub exp : Reader
  pub atom : AtomReader
  pub decs : DecsReader

-- what an atomic expression begins with
pub data AtomStart : Type 0 where
  constant_start : ℕ → Constant → List Terminal → AtomStart
  vid_start : ℕ → Placed LongVid → List Terminal → AtomStart
  brace_start : ℕ → List Terminal → AtomStart
  hash_start : ℕ → List Terminal → AtomStart
  paren_start : ℕ → List Terminal → AtomStart
  bracket_start : ℕ → List Terminal → AtomStart
  let_start : ℕ → List Terminal → AtomStart
  no_atom : AtomStart

abbrev pub vid_if : ℕ → Option (Taken (Placed LongVid)) → AtomStart
vid_if p (Some x) = vid_start p x.it x.rest
vid_if p None = no_atom

abbrev pub equals_unless : Option Infix → ℕ → List Terminal → AtomStart
equals_unless None p o = vid_start p (record { place = p; it = short Equals }) o
equals_unless (Some d) p o = no_atom

abbrev pub atom_start : Fixity → List Terminal → AtomStart
atom_start f (reserved p res.LeftBrace ∷ o) = brace_start p o
atom_start f (reserved p res.Hash ∷ o) = hash_start p o
atom_start f (reserved p res.LeftParen ∷ o) = paren_start p o
atom_start f (reserved p res.LeftBracket ∷ o) = bracket_start p o
atom_start f (reserved p res.Let ∷ o) = let_start p o
atom_start f (reserved p res.Equals ∷ o) = equals_unless (fix_of Equals f) p o
atom_start f (number p n plain ∷ o) = constant_start p (int n) o
atom_start f (constant p c ∷ o) = constant_start p c o
atom_start f i = vid_if (place_at i) (names_vid f i)

abbrev pub is_atom_start : AtomStart → Bool
is_atom_start (constant_start p c o) = true
is_atom_start (vid_start p x o) = true
is_atom_start (brace_start p o) = true
is_atom_start (hash_start p o) = true
is_atom_start (paren_start p o) = true
is_atom_start (bracket_start p o) = true
is_atom_start (let_start p o) = true
is_atom_start no_atom = false

abbrev pub begins_atom : Fixity → List Terminal → Bool
begins_atom f i = is_atom_start (atom_start f i)

-- forms that begin with a keyword, and others
pub data Start : Type 0 where
  raise_start : ℕ → List Terminal → Start
  if_start : ℕ → List Terminal → Start
  while_start : ℕ → List Terminal → Start
  case_start : ℕ → List Terminal → Start
  fn_start : ℕ → List Terminal → Start
  other_start : Start

abbrev pub start_of : List Terminal → Start
start_of (reserved p res.Raise ∷ o) = raise_start p o
start_of (reserved p res.If ∷ o) = if_start p o
start_of (reserved p res.While ∷ o) = while_start p o
start_of (reserved p res.Case ∷ o) = case_start p o
start_of (reserved p res.Fn ∷ o) = fn_start p o
start_of _ = other_start

abbrev pub is_keyword : Start → Bool
is_keyword (raise_start p o) = true
is_keyword (if_start p o) = true
is_keyword (while_start p o) = true
is_keyword (case_start p o) = true
is_keyword (fn_start p o) = true
is_keyword other_start = false

-- an expression of a level of at least l begins here
abbrev pub begins : Fixity → ℕ → List Terminal → Bool
begins f l i = begins_atom f i || (nat_le l 4 && is_keyword (start_of i))

-- Lists of expressions.

abbrev pub commas_turn : Reader → Fixity → NoState → List Terminal → Answer (Turn Exps NoState)
commas_turn self f s i = then_read (self f 0 i) (λ e o. separated (after_word res.Comma o) (exp e) (exp e no_exps) s o)

abbrev pub semicolons_turn : Reader → Fixity → NoState → List Terminal → Answer (Turn Exps NoState)
semicolons_turn self f s i = then_read (self f 0 i) (λ e o. separated (after_word res.Semicolon o) (exp e) (exp e no_exps) s o)

abbrev pub row_turn : Reader → Fixity → NoState → List Terminal → Answer (Turn ExpFields NoState)
row_turn self f s i =
    then_taken (label_equals i) (λ l m. then_read (self f 0 m) (λ e o. separated (after_word res.Comma o) (exp_field l e) (exp_field l e no_exp_fields) s o))

-- Atomic expressions, after their first terminal.

abbrev pub brace_exp : Reader → Fixity → ℕ → List Terminal → Answer Exp
brace_exp self f p i =
    on_some (after_word res.RightBrace i) (λ o. read (record_exp p no_exp_fields) o)
    (then_read (whole (row_turn self f) no_state i) (λ fs m. word_then res.RightBrace (λ o. read (record_exp p fs) o) m))

abbrev pub hash_exp : ℕ → List Terminal → Answer Exp
hash_exp p i = then_taken (first_as as_label i) (λ l o. read (selector p l.it) o)

abbrev pub bracket_exp : Reader → Fixity → ℕ → List Terminal → Answer Exp
bracket_exp self f p i =
    on_some (after_word res.RightBracket i) (λ o. read (list_exp p no_exps) o)
    (then_read (whole (commas_turn self f) no_state i) (λ es m. word_then res.RightBracket (λ o. read (list_exp p es) o) m))

abbrev pub tuple_rest : Reader → Fixity → ℕ → Exp → List Terminal → Answer Exp
tuple_rest self f p e i = then_read (whole (commas_turn self f) no_state i) (λ es m. word_then res.RightParen (λ o. read (tuple_exp p (exp e es)) o) m)

abbrev pub sequence_rest : Reader → Fixity → ℕ → Exp → List Terminal → Answer Exp
sequence_rest self f p e i = then_read (whole (semicolons_turn self f) no_state i) (λ es m. word_then res.RightParen (λ o. read (sequence p (exp e es)) o) m)

-- after `(e`
abbrev pub paren_rest : Reader → Fixity → ℕ → Exp → List Terminal → Answer Exp
paren_rest self f p e i =
    on_some (after_word res.Comma i) (tuple_rest self f p e)
    (on_some (after_word res.Semicolon i) (sequence_rest self f p e) (word_then res.RightParen (λ o. read (paren_exp p e) o) i))

abbrev pub paren_in : Reader → Fixity → ℕ → List Terminal → Answer Exp
paren_in self f p i = on_some (after_word res.RightParen i) (λ o. read (unit_exp p) o) (then_read (self f 0 i) (paren_rest self f p))

-- after `let dec in`
abbrev pub let_body : Reader → Fixity → ℕ → Decs → List Terminal → Answer Exp
let_body self f p ds i = then_read (whole (semicolons_turn self (after f ds)) no_state i) (λ es m. word_then res.End (λ o. read (let_in p ds es) o) m)

abbrev pub let_exp : Readers → Fixity → ℕ → List Terminal → Answer Exp
let_exp self f p i = then_read (self.decs f i) (λ ds m. word_then res.In (let_body self.exp f p ds) m)

abbrev pub atom_by : Readers → Fixity → AtomStart → Answer Exp
atom_by self f (constant_start p c o) = read (constant_exp p c) o
atom_by self f (vid_start p x o) = read (vid_exp p x) o
atom_by self f (brace_start p i) = brace_exp self.exp f p i
atom_by self f (hash_start p i) = hash_exp p i
atom_by self f (paren_start p i) = paren_in self.exp f p i
atom_by self f (bracket_start p i) = bracket_exp self.exp f p i
atom_by self f (let_start p i) = let_exp self f p i
atom_by self f no_atom = bad

-- Applications.

abbrev pub atoms_turn : AtomReader → Fixity → NoState → List Terminal → Answer (Turn Exps NoState)
atoms_turn atom f s i = if begins_atom f i then then_read (atom f i) (λ e o. read (more (exp e) s) o) else read (last no_exps) i

abbrev pub applied : Exp → Exps → Exp
applied e no_exps = e
applied e (exp a es) = app e a es

-- e is an application's first part only if there is room for it
abbrev pub apply_to : Readers → ℕ → Fixity → Exp → List Terminal → Answer Exp
apply_to self n f e m =
    if begins_atom f m
    then (if nat_le (depth e) n then then_read (whole (atoms_turn self.atom f) no_state m) (λ es o. read (applied e es) o) else deep)
    else read e m

abbrev pub application : Readers → ℕ → Fixity → List Terminal → Answer Exp
application self n f i = then_read (atom_by self f (atom_start f i)) (apply_to self n f)

-- Matches.

abbrev pub rule_turn : ℕ → Reader → Fixity → NoState → List Terminal → Answer (Turn Rules NoState)
rule_turn n self f s i =
    then_read (read_pat n f i)
    (λ a m. word_then res.DoubleArrow (λ k. then_read (self f 0 k) (λ e o. separated (after_word res.Bar o) (rule a e) (last_rule a e) s o)) m)

abbrev pub read_match : ℕ → Reader → Fixity → List Terminal → Answer Rules
read_match n self f i = whole (rule_turn n self f) no_state i

-- What may follow an expression.
pub data Next : Type 0 where
  joint : Joint → List Terminal → Next
  mark : List Terminal → Next
  handler : List Terminal → Next
  nothing : Next

abbrev pub infix_next : Option (Taken (Placed ℕ)) → Next
infix_next None = nothing
infix_next (Some x) = joint (infixed (record { place = x.it.place; it = Named x.it.it })) x.rest

abbrev pub equals_next : Option Infix → ℕ → List Terminal → Next
equals_next None p o = nothing
equals_next (Some d) p o = joint (infixed (record { place = p; it = Equals })) o

abbrev pub next_of : Fixity → List Terminal → Next
next_of f (reserved p res.Colon ∷ o) = mark o
next_of f (reserved p res.Handle ∷ o) = handler o
next_of f (reserved p res.Andalso ∷ o) = joint and_also o
next_of f (reserved p res.Orelse ∷ o) = joint or_else o
next_of f (reserved p res.Equals ∷ o) = equals_next (fix_of Equals f) p o
next_of f i = infix_next (infix_vid f i)

-- what follows an operand in a chain of level l that associates as r says, after the joint j
abbrev pub part_next : Fixity → ℕ → Bool → Joint → Exp → List Terminal → Next → Answer (Turn Parts Joint)
part_next f l r j b i (joint j' m) =
    if nat_eq (joint_level f j') l
    then (if same (joint_right f j') r then read (more (part j b) j') m else bad)
    else read (last (last_part j b)) i
part_next f l r j b i (mark m) = read (last (last_part j b)) i
part_next f l r j b i (handler m) = read (last (last_part j b)) i
part_next f l r j b i nothing = read (last (last_part j b)) i

abbrev pub part_turn : Reader → Fixity → ℕ → Bool → Joint → List Terminal → Answer (Turn Parts Joint)
part_turn self f l r j i = then_read (self f (suc l) i) (λ b o. part_next f l r j b o (next_of f o))

abbrev pub whole_parts : Reader → Fixity → Joint → List Terminal → Answer Parts
whole_parts self f j m = whole (part_turn self f (joint_level f j) (joint_right f j)) j m

-- what follows the expression a, in an expression of a level of at least l; a is a part of it only if there is room
abbrev pub suffix_next : Reader → ℕ → Fixity → ℕ → Exp → List Terminal → Next → Answer (Turn Exp Exp)
suffix_next self n f l a i nothing = read (last a) i
suffix_next self n f l a i (joint j m) =
    if nat_le l (joint_level f j)
    then (if nat_le (suc (joint_level f j)) (level f a)
    then (if nat_le (depth a) n then then_read (whole_parts self f j m) (λ ps o. read (more (λ b. b) (chain (joint_right f j) a ps)) o) else deep)
    else bad)
    else read (last a) i
suffix_next self n f l a i (mark m) =
    if nat_le l 5
    then (if nat_le 5 (level f a) then (if nat_le (depth a) n then then_read (read_ty n 0 m) (λ t o. read (more (λ b. b) (typed a t)) o) else deep) else bad)
    else read (last a) i
suffix_next self n f l a i (handler m) =
    if nat_le l 0
    then (if nat_le (depth a) n then then_read (read_match n self f m) (λ rs o. read (more (λ b. b) (handle a rs)) o) else deep)
    else read (last a) i

abbrev pub suffix_turn : Reader → ℕ → Fixity → ℕ → Exp → List Terminal → Answer (Turn Exp Exp)
suffix_turn self n f l a i = suffix_next self n f l a i (next_of f i)

-- Forms that begin with a keyword, after the keyword.

abbrev pub if_rest : Reader → Fixity → ℕ → Exp → List Terminal → Answer Exp
if_rest self f p a i =
    word_then res.Then (λ m. then_read (self f 0 m) (λ b k. word_then res.Else (λ k'. then_read (self f 0 k') (λ c o. read (if_then p a b c) o)) k)) i

abbrev pub while_rest : Reader → Fixity → ℕ → Exp → List Terminal → Answer Exp
while_rest self f p a i = word_then res.Do (λ m. then_read (self f 0 m) (λ b o. read (while p a b) o)) i

abbrev pub case_rest : ℕ → Reader → Fixity → ℕ → Exp → List Terminal → Answer Exp
case_rest n self f p e i = word_then res.Of (λ m. then_read (read_match n self f m) (λ rs o. read (case p e rs) o)) i

abbrev pub keyword_form : ℕ → Reader → Fixity → Start → Answer Exp
keyword_form n self f (raise_start p i) = then_read (self f 0 i) (λ e o. read (raise p e) o)
keyword_form n self f (if_start p i) = then_read (self f 0 i) (if_rest self f p)
keyword_form n self f (while_start p i) = then_read (self f 0 i) (while_rest self f p)
keyword_form n self f (case_start p i) = then_read (self f 0 i) (case_rest n self f p)
keyword_form n self f (fn_start p i) = then_read (read_match n self f i) (λ rs o. read (fn p rs) o)
keyword_form n self f other_start = bad

abbrev pub exp_from : Readers → ℕ → Fixity → ℕ → List Terminal → Answer Exp
exp_from self n f l i =
    if is_keyword (start_of i)
    then (if nat_le l 4 then keyword_form n self.exp f (start_of i) else bad)
    else then_read (application self n f i) (λ a m. whole (suffix_turn self.exp n f l) a m)

-- Declarations. `n` is how deep their phrases may be, and `inner` reads the declarations in a `local`.

abbrev pub bind_turn : ℕ → Reader → Fixity → NoState → List Terminal → Answer (Turn Binds NoState)
bind_turn n self f s i =
    on_some (after_word res.Rec i) (λ m. read (more rec_binds s) m)
    (then_read (read_pat n f i)
    (λ a m. word_then res.Equals (λ k. then_read (self f 0 k) (λ e o. separated (after_word res.And o) (bind a e) (last_bind a e) s o)) m))

abbrev pub read_binds : ℕ → Reader → Fixity → List Terminal → Answer Binds
read_binds n self f i = whole (bind_turn n self f) no_state i

-- the name and the number of patterns that clauses must have: none yet before the first one
pub record Shape : Type 0 where
  pub vid : Vid
  pub count : ℕ

abbrev pub shape_of : Head → Shape
shape_of h = record { vid = head_vid h; count = head_count h }

abbrev pub agrees : Option Shape → Head → Bool
agrees None h = true
agrees (Some s) h = is_vid (head_vid h) s.vid && nat_eq (head_count h) s.count

abbrev pub clause_body : Reader → Fixity → Head → Option Ty → List Terminal → Answer (Turn Clauses (Option Shape))
clause_body self f h t i =
    word_then res.Equals (λ k. then_read (self f 0 k) (λ e o. separated (after_word res.Bar o) (clause h t e) (last_clause h t e) (Some (shape_of h)) o)) i

abbrev pub clause_rest : ℕ → Reader → Fixity → Option Shape → Head → List Terminal → Answer (Turn Clauses (Option Shape))
clause_rest n self f s h i =
    if agrees s h then then_read (maybe_ty n (after_word res.Colon i) i) (clause_body self f h) else bad

abbrev pub clause_turn : ℕ → Reader → Fixity → Option Shape → List Terminal → Answer (Turn Clauses (Option Shape))
clause_turn n self f s i = then_read (read_head n f i) (clause_rest n self f s)

abbrev pub read_clauses : ℕ → Reader → Fixity → List Terminal → Answer Clauses
read_clauses n self f i = whole (clause_turn n self f) None i

abbrev pub fun_turn : ℕ → Reader → Fixity → NoState → List Terminal → Answer (Turn Funs NoState)
fun_turn n self f s i = then_read (read_clauses n self f i) (λ cs o. separated (after_word res.And o) (fun_and cs) (last_fun cs) s o)

abbrev pub read_funs : ℕ → Reader → Fixity → List Terminal → Answer Funs
read_funs n self f i = whole (fun_turn n self f) no_state i

-- what a declaration begins with
pub data DecStart : Type 0 where
  val_start : ℕ → List Terminal → DecStart
  fun_start : ℕ → List Terminal → DecStart
  type_start : ℕ → List Terminal → DecStart
  datatype_start : ℕ → List Terminal → DecStart
  exception_start : ℕ → List Terminal → DecStart
  local_start : ℕ → List Terminal → DecStart
  open_start : ℕ → List Terminal → DecStart
  infix_start : ℕ → List Terminal → DecStart
  infixr_start : ℕ → List Terminal → DecStart
  nonfix_start : ℕ → List Terminal → DecStart
  no_dec : DecStart

abbrev pub dec_start : List Terminal → DecStart
dec_start (reserved p res.Val ∷ o) = val_start p o
dec_start (reserved p res.Fun ∷ o) = fun_start p o
dec_start (reserved p res.TypeWord ∷ o) = type_start p o
dec_start (reserved p res.Datatype ∷ o) = datatype_start p o
dec_start (reserved p res.Exception ∷ o) = exception_start p o
dec_start (reserved p res.Local ∷ o) = local_start p o
dec_start (reserved p res.Open ∷ o) = open_start p o
dec_start (reserved p res.Infix ∷ o) = infix_start p o
dec_start (reserved p res.Infixr ∷ o) = infixr_start p o
dec_start (reserved p res.Nonfix ∷ o) = nonfix_start p o
dec_start _ = no_dec

abbrev pub directive : ℕ → Option Infix → List Terminal → Answer Dec
directive p status i = then_read (read_vids i) (λ xs o. read (fixity_dec p status xs) o)

abbrev pub infix_directive : ℕ → Bool → ℕ → List Terminal → Answer Dec
infix_directive p right d i = directive p (Some (record { precedence = d; right = right })) i

abbrev pub withtype_rest : ℕ → ℕ → List DataBind → List Terminal → Answer Dec
withtype_rest n p bs i =
    on_some (after_word res.Withtype i) (λ m. then_read (read_type_binds n m) (λ cs o. read (withtype_dec p bs cs) o)) (read (datatype_dec p bs) i)

-- `tycon = datatype`, as a replication has it after its first word
abbrev pub replicated_if : Placed ℕ → Option (List Terminal) → Option (Taken (Placed ℕ))
replicated_if x (Some m) = on_some (after_word res.Datatype m) (λ o. taken x o) None
replicated_if x None = None

abbrev pub replicated : List Terminal → Option (Taken (Placed ℕ))
replicated i = on_taken (first_as as_tycon i) (λ x m. replicated_if x (after_word res.Equals m)) None

abbrev pub datatype_form : ℕ → Fixity → ℕ → List Terminal → Answer Dec
datatype_form n f p i =
    on_taken (replicated i) (λ x m. then_taken (first_as as_long_tycon m) (λ c o. read (replicate_dec p x c) o))
    (then_read (read_data_binds n f i) (withtype_rest n p))

abbrev pub local_rest : DecsReader → Fixity → ℕ → Decs → List Terminal → Answer Dec
local_rest inner f p ds i =
    word_then res.In (λ k. then_read (inner (after f ds) k) (λ es m. word_then res.End (λ o. read (local_dec p ds es) o) m)) i

abbrev pub dec_by : ℕ → Reader → DecsReader → Fixity → DecStart → Answer Dec
dec_by n self inner f (val_start p i) = then_read (read_tyvars i)
    (λ as_ m. then_read (read_binds n self f m) (λ bs o. read (val_dec p (tyvars_place p i as_) as_ bs) o))
dec_by n self inner f (fun_start p i) = then_read (read_tyvars i)
    (λ as_ m. then_read (read_funs n self f m) (λ fs o. read (fun_dec p (tyvars_place p i as_) as_ fs) o))
dec_by n self inner f (type_start p i) = then_read (read_type_binds n i) (λ bs o. read (type_dec p bs) o)
dec_by n self inner f (datatype_start p i) = datatype_form n f p i
dec_by n self inner f (exception_start p i) = then_read (read_ex_binds n f i) (λ bs o. read (exception_dec p bs) o)
dec_by n self inner f (local_start p i) = then_read (inner f i) (local_rest inner f p)
dec_by n self inner f (open_start p i) = then_read (read_strids i) (λ xs o. read (open_dec p xs) o)
dec_by n self inner f (infix_start p i) = precedence_then (infix_directive p false) i
dec_by n self inner f (infixr_start p i) = precedence_then (infix_directive p true) i
dec_by n self inner f (nonfix_start p i) = directive p None i
dec_by n self inner f no_dec = bad

abbrev pub is_dec_start : DecStart → Bool
is_dec_start (val_start p o) = true
is_dec_start (fun_start p o) = true
is_dec_start (type_start p o) = true
is_dec_start (datatype_start p o) = true
is_dec_start (exception_start p o) = true
is_dec_start (local_start p o) = true
is_dec_start (open_start p o) = true
is_dec_start (infix_start p o) = true
is_dec_start (infixr_start p o) = true
is_dec_start (nonfix_start p o) = true
is_dec_start no_dec = false

abbrev pub dec_turn : ℕ → Reader → DecsReader → Fixity → List Terminal → Answer (Turn Decs Fixity)
dec_turn n self inner f i =
    on_some (after_word res.Semicolon i) (λ m. read (more (λ ds. ds) f) m)
    (if is_dec_start (dec_start i)
    then then_read (dec_by n self inner f (dec_start i)) (λ d o. read (more (dec d) (after_dec f d)) o)
    else read (last no_decs) i)

abbrev pub decs_from : ℕ → Reader → DecsReader → DecsReader
decs_from n self inner f i = whole (dec_turn n self inner) f i

-- phrases that are at most n deep
unfoldable pub readers : ℕ → Readers
readers zero = record {
  exp = λ f l i. deep_if (begins f l i);
  atom = λ f i. deep_if (begins_atom f i);
  decs = λ f i. decs_from 0 (λ g l m. deep_if (begins g l m)) (λ g m. deep) f i;
}
readers (suc n) = record {
  exp = λ f l i. exp_from (readers n) n f l i;
  atom = λ f i. atom_by (readers n) f (atom_start f i);
  decs = λ f i. decs_from (suc n) (λ g l m. exp_from (readers n) n g l m) (readers n).decs f i;
}

-- all terminals as declarations
abbrev pub at_end : Decs → List Terminal → Answer Decs
at_end ds [] = read ds []
at_end ds (t ∷ o) = bad

abbrev pub read_all : ℕ → Fixity → List Terminal → Answer Decs
read_all n f i = then_read ((readers n).decs f i) at_end
