-- What stands at the head of the terminals: the relations of the grammar on terminals, as functions.
use Rattle.std.specs.Prelude.{ℕ, suc, ℤ, pos, List, [], ◌∷◌, Option, Some, None, Bool, true, false, nat_eq, if◌then◌else◌}
use Rattle.mlc_names.specs.declared.label.Label.{Label}
use Rattle.mlc_names.specs.declared.label.Label.TheVariants as label
use Rattle.mlc_names.specs.declared.token.Reserved.{Reserved}
use Rattle.mlc_names.specs.declared.token.Reserved.TheVariants as res
use Rattle.sml_tree.specs.Terminal.{Constant, int, LongVid, LongId, Terminal, reserved, number, constant, alpha, symbol, star, long_alpha, long_symbol, long_star, type_var}
use Rattle.sml_tree.specs.declared.ident.Tyvar.{Tyvar}
use Rattle.sml_tree.specs.declared.ident.Vid.{Vid}
use Rattle.sml_tree.specs.declared.ident.Vid.TheVariants.{Named, Equals}
use Rattle.sml_tree.specs.declared.fixity.Infix.{Infix}
use Rattle.sml_tree.specs.Fixity.{Fixity, fix_of}
use Rattle.sml_tree.specs.ReadTree.{Placed}
use Rattle.sml_grammar.specs.Answer.{Answer, read, bad, Turn, last, more}

-- what was taken from the head, and the terminals after it
pub record Taken (B : Type 0) : Type 0 where
  pub it : B
  pub rest : List Terminal

abbrev pub taken : {B : Type 0} → B → List Terminal → Option (Taken B)
taken b o = Some (record { it = b; rest = o })

abbrev pub place_of : Terminal → ℕ
place_of (reserved p w) = p
place_of (number p n plain) = p
place_of (constant p c) = p
place_of (alpha p x) = p
place_of (symbol p x) = p
place_of (star p x) = p
place_of (long_alpha p qs x) = p
place_of (long_symbol p qs x) = p
place_of (long_star p qs x) = p
place_of (type_var p a) = p

-- the place of the first terminal; that of no terminals is never asked
abbrev pub place_at : List Terminal → ℕ
place_at [] = 0
place_at (t ∷ o) = place_of t

-- the reserved word at the head
abbrev pub word_of : Terminal → Option Reserved
word_of (reserved p w) = Some w
word_of _ = None

abbrev pub word_at : List Terminal → Option Reserved
word_at [] = None
word_at (t ∷ o) = word_of t

abbrev pub tail : List Terminal → List Terminal
tail [] = []
tail (t ∷ o) = o

-- a value identifier other than `=`
abbrev pub as_vid : Terminal → Option ℕ
as_vid (alpha p x) = Some x
as_vid (symbol p x) = Some x
as_vid (star p x) = Some x
as_vid _ = None

abbrev pub as_qualified : Terminal → Option LongVid
as_qualified (long_alpha p qs x) = Some (record { qualifiers = qs; vid = Named x })
as_qualified (long_symbol p qs x) = Some (record { qualifiers = qs; vid = Named x })
as_qualified (long_star p qs x) = Some (record { qualifiers = qs; vid = Named x })
as_qualified _ = None

-- what `op` may stand before, without a qualifier and with one
abbrev pub as_any_vid : Terminal → Option Vid
as_any_vid (alpha p x) = Some (Named x)
as_any_vid (symbol p x) = Some (Named x)
as_any_vid (star p x) = Some (Named x)
as_any_vid (reserved p res.Equals) = Some Equals
as_any_vid _ = None

abbrev pub as_constant : Terminal → Option Constant
as_constant (number p n plain) = Some (int n)
as_constant (constant p c) = Some c
as_constant _ = None

abbrev pub as_tycon : Terminal → Option ℕ
as_tycon (alpha p x) = Some x
as_tycon (symbol p x) = Some x
as_tycon _ = None

abbrev pub as_long_tycon : Terminal → Option LongId
as_long_tycon (alpha p x) = Some (record { qualifiers = []; id = x })
as_long_tycon (symbol p x) = Some (record { qualifiers = []; id = x })
as_long_tycon (long_alpha p qs x) = Some (record { qualifiers = qs; id = x })
as_long_tycon (long_symbol p qs x) = Some (record { qualifiers = qs; id = x })
as_long_tycon _ = None

abbrev pub as_long_strid : Terminal → Option LongId
as_long_strid (alpha p x) = Some (record { qualifiers = []; id = x })
as_long_strid (long_alpha p qs x) = Some (record { qualifiers = qs; id = x })
as_long_strid _ = None

abbrev pub number_label : ℤ → Bool → Option Label
number_label (pos (suc n)) true = Some (label.Number (suc n))
number_label _ _ = None

abbrev pub as_label : Terminal → Option Label
as_label (number p n plain) = number_label n plain
as_label (alpha p x) = Some (label.Word x)
as_label (symbol p x) = Some (label.Word x)
as_label (star p x) = Some (label.Word x)
as_label _ = None

abbrev pub as_tyvar : Terminal → Option Tyvar
as_tyvar (type_var p a) = Some a
as_tyvar _ = None

-- the first terminal as something, with its place
abbrev pub placed_if : {B : Type 0} → ℕ → Option B → List Terminal → Option (Taken (Placed B))
placed_if p (Some b) o = taken (record { place = p; it = b }) o
placed_if p None o = None

abbrev pub first_as : {B : Type 0} → (Terminal → Option B) → List Terminal → Option (Taken (Placed B))
first_as g [] = None
first_as g (t ∷ o) = placed_if (place_of t) (g t) o

-- a number for each reserved word, by which words are compared
abbrev pub word_number : Reserved → ℕ
word_number res.Abstype = 0
word_number res.And = 1
word_number res.Andalso = 2
word_number res.As = 3
word_number res.Case = 4
word_number res.Datatype = 5
word_number res.Do = 6
word_number res.Else = 7
word_number res.End = 8
word_number res.Eqtype = 9
word_number res.Exception = 10
word_number res.Fn = 11
word_number res.Fun = 12
word_number res.Functor = 13
word_number res.Handle = 14
word_number res.If = 15
word_number res.In = 16
word_number res.Include = 17
word_number res.Infix = 18
word_number res.Infixr = 19
word_number res.Let = 20
word_number res.Local = 21
word_number res.Nonfix = 22
word_number res.Of = 23
word_number res.Op = 24
word_number res.Open = 25
word_number res.Orelse = 26
word_number res.Raise = 27
word_number res.Rec = 28
word_number res.Sharing = 29
word_number res.Sig = 30
word_number res.Signature = 31
word_number res.Struct = 32
word_number res.Structure = 33
word_number res.Then = 34
word_number res.TypeWord = 35
word_number res.Val = 36
word_number res.Where = 37
word_number res.While = 38
word_number res.With = 39
word_number res.Withtype = 40
word_number res.LeftParen = 41
word_number res.RightParen = 42
word_number res.LeftBracket = 43
word_number res.RightBracket = 44
word_number res.LeftBrace = 45
word_number res.RightBrace = 46
word_number res.Comma = 47
word_number res.Semicolon = 48
word_number res.Dots = 49
word_number res.Underscore = 50
word_number res.Colon = 51
word_number res.ColonGreater = 52
word_number res.Bar = 53
word_number res.Equals = 54
word_number res.DoubleArrow = 55
word_number res.Arrow = 56
word_number res.Hash = 57

abbrev pub is_word : Reserved → Option Reserved → Bool
is_word w (Some v) = nat_eq (word_number v) (word_number w)
is_word w None = false

-- what follows this word, where it is at the head
abbrev pub after_word : Reserved → List Terminal → Option (List Terminal)
after_word w [] = None
after_word w (t ∷ o) = if is_word w (word_of t) then Some o else None

abbrev pub on_some : {A B : Type 0} → Option A → (A → B) → B → B
on_some (Some a) then_ else_ = then_ a
on_some None then_ else_ = else_

abbrev pub on_taken : {A B : Type 0} → Option (Taken A) → (A → List Terminal → B) → B → B
on_taken (Some x) then_ else_ = then_ x.it x.rest
on_taken None then_ else_ = else_

abbrev pub then_taken : {A B : Type 0} → Option (Taken B) → (B → List Terminal → Answer A) → Answer A
then_taken x g = on_taken x g bad

-- this word, and then what g reads
abbrev pub word_then : {A : Type 0} → Reserved → (List Terminal → Answer A) → List Terminal → Answer A
word_then w g i = on_some (after_word w i) g bad

-- One element of a list was read: a separator before o goes on with the list.
abbrev pub separated : {B : Type 0} {S : Type 0} → Option (List Terminal) → (B → B) → B → S → List Terminal → Answer (Turn B S)
separated (Some m) put end s o = read (more put s) m
separated None put end s o = read (last end) o

-- the state of loops that have none
pub data NoState : Type 0 where
  no_state : NoState

-- `*`, which parts the operands of a product
abbrev pub star_of : Terminal → Bool
star_of (star p x) = true
star_of _ = false

abbrev pub after_star : List Terminal → Option (List Terminal)
after_star [] = None
after_star (t ∷ o) = if star_of t then Some o else None

-- identifiers of values under fixities

abbrev pub plain_if : {B : Type 0} → B → List Terminal → Option Infix → Option (Taken B)
plain_if b o None = taken b o
plain_if b o (Some d) = None

abbrev pub infix_if : {B : Type 0} → B → List Terminal → Option Infix → Option (Taken B)
infix_if b o None = None
infix_if b o (Some d) = taken b o

abbrev pub plain_from : Fixity → Option (Taken (Placed ℕ)) → Option (Taken (Placed ℕ))
plain_from f None = None
plain_from f (Some x) = plain_if x.it x.rest (fix_of (Named x.it.it) f)

-- an identifier other than `=` that isn't infix, and one that is
abbrev pub plain_vid : Fixity → List Terminal → Option (Taken (Placed ℕ))
plain_vid f i = plain_from f (first_as as_vid i)

abbrev pub infix_from : Fixity → Option (Taken (Placed ℕ)) → Option (Taken (Placed ℕ))
infix_from f None = None
infix_from f (Some x) = infix_if x.it x.rest (fix_of (Named x.it.it) f)

abbrev pub infix_vid : Fixity → List Terminal → Option (Taken (Placed ℕ))
infix_vid f i = infix_from f (first_as as_vid i)

abbrev pub short : Vid → LongVid
short v = record { qualifiers = []; vid = v }

abbrev pub long_if : Option LongVid → Option Vid → Option LongVid
long_if q (Some v) = Some (short v)
long_if q None = q

abbrev pub as_any_long : Terminal → Option LongVid
as_any_long t = long_if (as_qualified t) (as_any_vid t)

abbrev pub named_if : Option (Taken (Placed ℕ)) → Option (Taken (Placed Vid))
named_if None = None
named_if (Some x) = taken (record { place = x.it.place; it = Named x.it.it }) x.rest

-- [op] vid, with the place of the identifier
abbrev pub binds_vid : Fixity → List Terminal → Option (Taken (Placed Vid))
binds_vid f (reserved p res.Op ∷ o) = first_as as_any_vid o
binds_vid f i = named_if (plain_vid f i)

abbrev pub long_named_if : Option (Taken (Placed LongVid)) → Option (Taken (Placed ℕ)) → Option (Taken (Placed LongVid))
long_named_if q None = q
long_named_if q (Some x) = taken (record { place = x.it.place; it = short (Named x.it.it) }) x.rest

-- [op] longvid, with the place of the identifier
abbrev pub names_vid : Fixity → List Terminal → Option (Taken (Placed LongVid))
names_vid f (reserved p res.Op ∷ o) = first_as as_any_long o
names_vid f i = long_named_if (first_as as_qualified i) (plain_vid f i)
