-- How patterns, and the heads of clauses, are read. `(read_pats n).pat f l` reads a pattern of a level of at least l that is at most n deep, and
-- `(read_pats n).atpat f` an atomic one.
use Rattle.std.specs.Prelude.{ℕ, zero, suc, List, ◌∷◌, Option, Some, None, Bool, true, false, ◌&&◌, nat_eq, nat_le, if◌then◌else◌}
use Rattle.mlc_names.specs.declared.label.Label.{Label}
use Rattle.mlc_names.specs.declared.token.Reserved.TheVariants as res
use Rattle.sml_tree.specs.Terminal.{Constant, int, LongVid, Terminal, reserved, number, constant}
use Rattle.sml_tree.specs.declared.ident.Vid.{Vid}
use Rattle.sml_tree.specs.declared.ident.Vid.TheVariants.{Named}
use Rattle.sml_tree.specs.Fixity.{Fixity}
use Rattle.sml_tree.specs.ReadTree.{Placed, Ty, Pat, wild_pat, constant_pat, vid_pat, record_pat, unit_pat, tuple_pat, list_pat, paren_pat, con_pat, chain_pat, typed_pat, as_pat, Pats, no_pats, pat, PatFields, no_pat_fields, pat_field, PatField, labelled, punned, punned_as, PatParts, last_pat_part, pat_part, Head, prefix_head, infix_head, bracket_head}
use Rattle.sml_tree.specs.Depth.{depth_pat}
use Rattle.sml_tree.specs.Levels.{vid_level, vid_right, pat_level}
use Rattle.sml_grammar.specs.Answer.{Answer, bad, deep, read, then_read, deep_if, Turn, last, more, whole}
use Rattle.sml_grammar.specs.Terminals.{Taken, taken, place_at, first_as, as_label, after_word, on_some, on_taken, word_then, separated, NoState, no_state, short, plain_vid, infix_vid, binds_vid, names_vid}
use Rattle.sml_grammar.specs.Types.{read_ty, maybe_ty}

-- what an atomic pattern begins with
pub data PatStart : Type 0 where
  wild_start : ℕ → List Terminal → PatStart
  constant_start : ℕ → Constant → List Terminal → PatStart
  vid_start : ℕ → Placed LongVid → List Terminal → PatStart
  brace_start : ℕ → List Terminal → PatStart
  paren_start : ℕ → List Terminal → PatStart
  bracket_start : ℕ → List Terminal → PatStart
  no_start : PatStart

abbrev pub vid_if : ℕ → Option (Taken (Placed LongVid)) → PatStart
vid_if p (Some x) = vid_start p x.it x.rest
vid_if p None = no_start

abbrev pub pat_start : Fixity → List Terminal → PatStart
pat_start f (reserved p res.Underscore ∷ o) = wild_start p o
pat_start f (reserved p res.LeftBrace ∷ o) = brace_start p o
pat_start f (reserved p res.LeftParen ∷ o) = paren_start p o
pat_start f (reserved p res.LeftBracket ∷ o) = bracket_start p o
pat_start f (number p n plain ∷ o) = constant_start p (int n) o
pat_start f (constant p c ∷ o) = constant_start p c o
pat_start f i = vid_if (place_at i) (names_vid f i)

abbrev pub is_pat_start : PatStart → Bool
is_pat_start (wild_start p o) = true
is_pat_start (constant_start p c o) = true
is_pat_start (vid_start p x o) = true
is_pat_start (brace_start p o) = true
is_pat_start (paren_start p o) = true
is_pat_start (bracket_start p o) = true
is_pat_start no_start = false

-- the terminals begin with what begins a pattern
abbrev pub begins_pat : Fixity → List Terminal → Bool
begins_pat f i = is_pat_start (pat_start f i)

abbrev pub PatReader : Type 0
PatReader = Fixity → ℕ → List Terminal → Answer Pat

abbrev pub AtPatReader : Type 0
AtPatReader = Fixity → List Terminal → Answer Pat

pub record PatReaders : Type 0 where
  pub pat : PatReader
  pub atpat : AtPatReader

abbrev pub pat_commas_turn : PatReader → Fixity → NoState → List Terminal → Answer (Turn Pats NoState)
pat_commas_turn self f s i = then_read (self f 0 i) (λ a o. separated (after_word res.Comma o) (pat a) (pat a no_pats) s o)

-- a label and the `=` after it
abbrev pub label_if : Label → Option (List Terminal) → Option (Taken Label)
label_if l (Some o) = taken l o
label_if l None = None

abbrev pub label_equals : List Terminal → Option (Taken Label)
label_equals i = on_taken (first_as as_label i) (λ l o. label_if l.it (after_word res.Equals o)) None

-- after a field's identifier and type
abbrev pub pun : PatReader → Fixity → Placed ℕ → Option Ty → List Terminal → Answer PatField
pun self f x s i = on_some (after_word res.As i) (λ m. then_read (self f 0 m) (λ a o. read (punned_as x.place x.it s a) o)) (read (punned x.place x.it s) i)

-- a field whose identifier is its label
abbrev pub punned_field : ℕ → PatReader → Fixity → List Terminal → Answer PatField
punned_field n self f i = on_taken (plain_vid f i) (λ x m. then_read (maybe_ty n (after_word res.Colon m) m) (pun self f x)) bad

abbrev pub field : ℕ → PatReader → Fixity → List Terminal → Answer PatField
field n self f i = on_taken (label_equals i) (λ l m. then_read (self f 0 m) (λ a o. read (labelled l a) o)) (punned_field n self f i)

-- the fields of a record pattern, and whether `...` ends them
pub record PatRowRead : Type 0 where
  pub fields : PatFields
  pub dots : Bool

abbrev pub put_field : PatField → PatRowRead → PatRowRead
put_field a r = record { fields = pat_field a r.fields; dots = r.dots }

abbrev pub only_field : PatField → PatRowRead
only_field a = record { fields = pat_field a no_pat_fields; dots = false }

abbrev pub only_dots : PatRowRead
only_dots = record { fields = no_pat_fields; dots = true }

abbrev pub pat_row_turn : ℕ → PatReader → Fixity → NoState → List Terminal → Answer (Turn PatRowRead NoState)
pat_row_turn n self f s i =
    on_some (after_word res.Dots i) (λ o. read (last only_dots) o)
    (then_read (field n self f i) (λ a o. separated (after_word res.Comma o) (put_field a) (only_field a) s o))

-- after `{`
abbrev pub brace_pat : ℕ → PatReader → Fixity → ℕ → List Terminal → Answer Pat
brace_pat n self f p i =
    on_some (after_word res.RightBrace i) (λ o. read (record_pat p no_pat_fields false) o)
    (then_read (whole (pat_row_turn n self f) no_state i) (λ r m. word_then res.RightBrace (λ o. read (record_pat p r.fields r.dots) o) m))

-- after `[`
abbrev pub bracket_pat : PatReader → Fixity → ℕ → List Terminal → Answer Pat
bracket_pat self f p i =
    on_some (after_word res.RightBracket i) (λ o. read (list_pat p no_pats) o)
    (then_read (whole (pat_commas_turn self f) no_state i) (λ as_ m. word_then res.RightBracket (λ o. read (list_pat p as_) o) m))

-- after `(a`
abbrev pub paren_pat_rest : PatReader → Fixity → ℕ → Pat → List Terminal → Answer Pat
paren_pat_rest self f p a i =
    on_some (after_word res.Comma i)
    (λ m. then_read (whole (pat_commas_turn self f) no_state m) (λ as_ k. word_then res.RightParen (λ o. read (tuple_pat p (pat a as_)) o) k))
    (word_then res.RightParen (λ o. read (paren_pat p a) o) i)

-- after `(`
abbrev pub paren_pat_in : PatReader → Fixity → ℕ → List Terminal → Answer Pat
paren_pat_in self f p i = on_some (after_word res.RightParen i) (λ o. read (unit_pat p) o) (then_read (self f 0 i) (paren_pat_rest self f p))

abbrev pub at_pat : ℕ → PatReader → Fixity → PatStart → Answer Pat
at_pat n self f (wild_start p o) = read (wild_pat p) o
at_pat n self f (constant_start p c o) = read (constant_pat p c) o
at_pat n self f (vid_start p x o) = read (vid_pat p x) o
at_pat n self f (brace_start p i) = brace_pat n self f p i
at_pat n self f (paren_start p i) = paren_pat_in self f p i
at_pat n self f (bracket_start p i) = bracket_pat self f p i
at_pat n self f no_start = bad

abbrev pub same : Bool → Bool → Bool
same true b = b
same false true = false
same false false = true

-- the operands of a chain of level l that associates as r says, after the joint x
abbrev pub pat_part_next : Fixity → ℕ → Bool → Placed ℕ → Pat → List Terminal → Option (Taken (Placed ℕ)) → Answer (Turn PatParts (Placed ℕ))
pat_part_next f l r x b i None = read (last (last_pat_part x b)) i
pat_part_next f l r x b i (Some y) =
    if nat_eq (vid_level f (Named y.it.it)) l
    then (if same (vid_right f (Named y.it.it)) r then read (more (pat_part x b) y.it) y.rest else bad)
    else read (last (last_pat_part x b)) i

abbrev pub pat_part_turn : PatReader → Fixity → ℕ → Bool → Placed ℕ → List Terminal → Answer (Turn PatParts (Placed ℕ))
pat_part_turn self f l r x i = then_read (self f (suc l) i) (λ b o. pat_part_next f l r x b o (infix_vid f o))

abbrev pub whole_pat_parts : PatReader → Fixity → Placed ℕ → List Terminal → Answer PatParts
whole_pat_parts self f x m = whole (pat_part_turn self f (vid_level f (Named x.it)) (vid_right f (Named x.it))) x m

-- what follows the pattern a, in a pattern of a level of at least l; a is a part of it only if there is room
abbrev pub pat_suffix_mark : ℕ → Fixity → ℕ → Pat → List Terminal → Option (List Terminal) → Answer (Turn Pat Pat)
pat_suffix_mark n f l a i None = read (last a) i
pat_suffix_mark n f l a i (Some m) =
    if nat_le l 5
    then (if nat_le 5 (pat_level f a)
    then (if nat_le (depth_pat a) n then then_read (read_ty n 0 m) (λ t o. read (more (λ b. b) (typed_pat a t)) o) else deep) else bad)
    else read (last a) i

abbrev pub pat_suffix_joint : PatReader → ℕ → Fixity → ℕ → Pat → List Terminal → Placed ℕ → List Terminal → Answer (Turn Pat Pat)
pat_suffix_joint self n f l a i x m =
    if nat_le l (vid_level f (Named x.it))
    then (if nat_le (suc (vid_level f (Named x.it))) (pat_level f a)
    then (if nat_le (depth_pat a) n then then_read (whole_pat_parts self f x m)
    (λ ps o. read (more (λ b. b) (chain_pat (vid_right f (Named x.it)) a ps)) o) else deep)
    else bad)
    else read (last a) i

abbrev pub pat_suffix_turn : PatReader → ℕ → Fixity → ℕ → Pat → List Terminal → Answer (Turn Pat Pat)
pat_suffix_turn self n f l a i = on_taken (infix_vid f i) (pat_suffix_joint self n f l a i) (pat_suffix_mark n f l a i (after_word res.Colon i))

abbrev pub pat_suffix : PatReader → ℕ → Fixity → ℕ → Pat → List Terminal → Answer Pat
pat_suffix self n f l a i = whole (pat_suffix_turn self n f l) a i

-- a constructor and its argument, or an atomic pattern
abbrev pub pat_first : PatReaders → ℕ → Fixity → List Terminal → Answer Pat
pat_first self n f i =
    on_taken (names_vid f i)
    (λ x m. if begins_pat f m then then_read (self.atpat f m) (λ a o. read (con_pat (place_at i) x a) o) else read (vid_pat (place_at i) x) m)
    (at_pat n self.pat f (pat_start f i))

abbrev pub plain_form : PatReaders → ℕ → Fixity → ℕ → List Terminal → Answer Pat
plain_form self n f l i = then_read (pat_first self n f i) (pat_suffix self.pat n f l)

-- an identifier without qualifiers
abbrev pub short_at : Placed Vid → Placed LongVid
short_at v = record { place = v.place; it = short v.it }

-- after `v :` and a type: `as` and a pattern, or the end of `v : t`; p is the place of the whole
abbrev pub typed_or_as : PatReaders → ℕ → Fixity → ℕ → Placed Vid → Ty → List Terminal → Answer Pat
typed_or_as self n f p v t i =
    on_some (after_word res.As i) (λ m. then_read (self.pat f 0 m) (λ a o. read (as_pat p v (Some t) a) o))
    (pat_suffix self.pat n f 0 (typed_pat (vid_pat p (short_at v)) t) i)

abbrev pub typed_form : PatReaders → ℕ → Fixity → ℕ → Placed Vid → List Terminal → Answer Pat
typed_form self n f p v m = if nat_le 1 n then then_read (read_ty n 0 m) (typed_or_as self n f p v) else deep

-- after a value identifier at the head of a whole pattern
abbrev pub vid_form : PatReaders → ℕ → Fixity → List Terminal → Placed Vid → List Terminal → Answer Pat
vid_form self n f i v m =
    on_some (after_word res.As m) (λ k. then_read (self.pat f 0 k) (λ a o. read (as_pat (place_at i) v None a) o))
    (on_some (after_word res.Colon m) (typed_form self n f (place_at i) v) (plain_form self n f 0 i))

abbrev pub pat_form : PatReaders → ℕ → Fixity → ℕ → List Terminal → Answer Pat
pat_form self n f zero i = on_taken (binds_vid f i) (vid_form self n f i) (plain_form self n f 0 i)
pat_form self n f (suc l) i = plain_form self n f (suc l) i

unfoldable pub read_pats : ℕ → PatReaders
read_pats zero = record { pat = λ f l i. deep_if (begins_pat f i); atpat = λ f i. deep_if (begins_pat f i) }
read_pats (suc n) = record { pat = λ f l i. pat_form (read_pats n) n f l i; atpat = λ f i. at_pat n (read_pats n).pat f (pat_start f i) }

abbrev pub read_pat : ℕ → Fixity → List Terminal → Answer Pat
read_pat n f i = (read_pats n).pat f 0 i

abbrev pub read_atpat : ℕ → Fixity → List Terminal → Answer Pat
read_atpat n f i = (read_pats n).atpat f i

-- Heads of clauses.

abbrev pub atpats_turn : ℕ → Fixity → NoState → List Terminal → Answer (Turn Pats NoState)
atpats_turn n f s i = if begins_pat f i then then_read (read_atpat n f i) (λ a o. read (more (pat a) s) o) else read (last no_pats) i

abbrev pub read_atpats : ℕ → Fixity → List Terminal → Answer Pats
read_atpats n f i = whole (atpats_turn n f) no_state i

abbrev pub infix_rest : ℕ → Fixity → Pat → Placed ℕ → List Terminal → Answer Head
infix_rest n f a x m = then_read (read_atpat n f m) (λ b o. read (infix_head a x b) o)

-- p is the place of the head
abbrev pub prefix_rest : ℕ → Fixity → ℕ → Placed Vid → List Terminal → Answer Head
prefix_rest n f p v m = then_read (read_atpat n f m) (λ a k. then_read (read_atpats n f k) (λ as_ o. read (prefix_head p v a as_) o))

-- after an identifier: it is the first operand where an infix identifier follows, and the function's name where none does
abbrev pub vid_head : ℕ → Fixity → ℕ → Placed Vid → List Terminal → Answer Head
vid_head n f p v m =
    on_taken (infix_vid f m) (λ x k. if nat_le 1 n then infix_rest n f (vid_pat p (short_at v)) x k else deep) (prefix_rest n f p v m)

-- `(a x b)`, where a and b are atomic
pub record Bracketed : Type 0 where
  pub place : ℕ
  pub left : Pat
  pub vid : Placed ℕ
  pub right : Pat

abbrev pub is_atpat : Pat → Bool
is_atpat (wild_pat p) = true
is_atpat (constant_pat p c) = true
is_atpat (vid_pat p x) = true
is_atpat (record_pat p fs b) = true
is_atpat (unit_pat p) = true
is_atpat (tuple_pat p as_) = true
is_atpat (list_pat p as_) = true
is_atpat (paren_pat p a) = true
is_atpat (con_pat p x a) = false
is_atpat (chain_pat r a ps) = false
is_atpat (typed_pat a t) = false
is_atpat (as_pat p v t a) = false

abbrev pub bracketed_parts : ℕ → Pat → PatParts → Option Bracketed
bracketed_parts p a (last_pat_part x b) = if is_atpat a && is_atpat b then Some (record { place = p; left = a; vid = x; right = b }) else None
bracketed_parts p a (pat_part x b ps) = None

abbrev pub bracketed_chain : ℕ → Pat → Option Bracketed
bracketed_chain p (chain_pat r a ps) = bracketed_parts p a ps
bracketed_chain p _ = None

abbrev pub bracketed : Pat → Option Bracketed
bracketed (paren_pat p a) = bracketed_chain p a
bracketed _ = None

abbrev pub bracket_rest : ℕ → Fixity → List Terminal → Option Bracketed → Answer Head
bracket_rest n f m (Some x) = then_read (read_atpats n f m) (λ as_ o. read (bracket_head x.place x.left x.vid x.right as_) o)
bracket_rest n f m None = bad

abbrev pub pat_head : ℕ → Fixity → Pat → List Terminal → Answer Head
pat_head n f a m = on_taken (infix_vid f m) (infix_rest n f a) (bracket_rest n f m (bracketed a))

abbrev pub read_head : ℕ → Fixity → List Terminal → Answer Head
read_head n f i = on_taken (binds_vid f i) (vid_head n f (place_at i)) (then_read (read_atpat n f i) (pat_head n f))
