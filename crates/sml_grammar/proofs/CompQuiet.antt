-- What expressions and declarations end before, and what they begin with.
use Rattle.std.proofs.Common.{◌≡◌, ℕ, ◌≤◌, List, [], ◌∷◌, Option, None, Bool, true, false, ◌||◌, ◌&&◌, refl, ap, ◌∙◌, subst, arith, nat_le}
use Rattle.std.proofs.lemmas.Bool.{le-leb}
use Rattle.mlc_names.specs.declared.token.Reserved.{Reserved}
use Rattle.mlc_names.specs.declared.token.Reserved.TheVariants as res
use Rattle.sml_tree.specs.Terminal.{LongVid, Terminal, reserved, is_number, is_constant, alpha_vid, symbol_vid, star_vid, long_alpha_vid, long_symbol_vid, long_star_vid}
use Rattle.sml_tree.specs.Fixity.{Fixity}
use Rattle.sml_tree.specs.ReadTree.{Placed, Exp, ExpFields, Exps, Decs, Dec}
use Rattle.sml_tree.specs.Levels.{level, could_go_on, begins_bar}
use Rattle.sml_tree.specs.Grammar.{NamesVid, plain_long, qualified, op_long, Atom, of_constant, of_vid, of_equals, of_no_row, of_row, of_selector, of_unit, of_tuple, of_nil, of_list, of_sequence, of_paren, of_let, ExpRow, last_exp_row, more_exp_row, Commas, last_exp, more_exps, Reads, of_atom, of_app, of_chain, of_typed, of_handle, of_raise, of_if, of_while, of_case, of_fn, Declares, nothing_more, of_semicolon, of_dec, Declare, of_val, of_fun, of_type, of_datatype, of_withtype, of_replication, of_exception, of_local, of_open, of_infix, of_infixr, of_nonfix}
use Rattle.sml_grammar.specs.Terminals.{first_as, as_vid, as_long_strid, after_word, names_vid}
use Rattle.sml_grammar.specs.Types.{ty_could_go_on}
use Rattle.sml_grammar.specs.Expressions.{vid_start, vid_if, atom_start, begins_atom, other_start, start_of, is_keyword, begins, dec_start, is_dec_start}
use Rattle.sml_grammar.specs.Begins.{BeginsAtom, with_constant, with_vid, with_equals, with_brace, with_hash, with_paren, with_bracket, with_let, Begins, with_atom, with_raise, with_if, with_while, with_case, with_fn}
use Rattle.sml_grammar.proofs.Words.{AfterWord, found, absent, after-is}
use Rattle.sml_grammar.proofs.Answers.{not_true, not_false}
use Rattle.sml_grammar.proofs.Terminals.{not-word, label-word}
use Rattle.sml_grammar.proofs.Vids.{names-found}
use Rattle.sml_grammar.proofs.CompFacts.{quiet}
use Rattle.sml_grammar.proofs.CompShapes.{chain-head}

-- Nothing goes on here.
pub record Plain (f : Fixity) (o : List Terminal) : Type 0 where
  pub ties : could_go_on f 0 o ≡ false
  pub bar : begins_bar o ≡ false
  pub atom : begins_atom f o ≡ false
  pub ty : ty_could_go_on 0 o ≡ false

-- words after which nothing goes on
abbrev pub calm : Reserved → Bool
calm res.Comma = true
calm res.Semicolon = true
calm res.RightParen = true
calm res.RightBracket = true
calm res.RightBrace = true
calm res.Then = true
calm res.Else = true
calm res.Do = true
calm res.Of = true
calm res.And = true
calm res.End = true
calm res.In = true
calm _ = false

pub plain-word : (f : Fixity) (p : ℕ) (w : Reserved) (o : List Terminal) → calm w ≡ true → Plain f (reserved p w ∷ o)
plain-word f p res.Comma o h = record { ties = refl; bar = refl; atom = refl; ty = refl }
plain-word f p res.Semicolon o h = record { ties = refl; bar = refl; atom = refl; ty = refl }
plain-word f p res.RightParen o h = record { ties = refl; bar = refl; atom = refl; ty = refl }
plain-word f p res.RightBracket o h = record { ties = refl; bar = refl; atom = refl; ty = refl }
plain-word f p res.RightBrace o h = record { ties = refl; bar = refl; atom = refl; ty = refl }
plain-word f p res.Then o h = record { ties = refl; bar = refl; atom = refl; ty = refl }
plain-word f p res.Else o h = record { ties = refl; bar = refl; atom = refl; ty = refl }
plain-word f p res.Do o h = record { ties = refl; bar = refl; atom = refl; ty = refl }
plain-word f p res.Of o h = record { ties = refl; bar = refl; atom = refl; ty = refl }
plain-word f p res.And o h = record { ties = refl; bar = refl; atom = refl; ty = refl }
plain-word f p res.End o h = record { ties = refl; bar = refl; atom = refl; ty = refl }
plain-word f p res.In o h = record { ties = refl; bar = refl; atom = refl; ty = refl }
plain-word f p _ o h = not_true h

pub record Quiet (f : Fixity) (i : List Terminal) : Type 0 where
  pub plain : Plain f i
  pub strid : first_as as_long_strid i ≡ None
  pub vid : first_as as_vid i ≡ None
  pub and_ : after_word res.And i ≡ None
  pub withtype : after_word res.Withtype i ≡ None

pub quiet-is : (f : Fixity) (i : List Terminal) → quiet i ≡ true → Quiet f i
quiet-is f [] h = record { plain = record { ties = refl; bar = refl; atom = refl; ty = refl }; strid = refl; vid = refl; and_ = refl; withtype = refl }
quiet-is f (reserved p res.Semicolon ∷ r) h = record { plain = record { ties = refl; bar = refl; atom = refl; ty = refl }; strid = refl; vid = refl; and_ = refl; withtype = refl }
quiet-is f (reserved p res.In ∷ r) h = record { plain = record { ties = refl; bar = refl; atom = refl; ty = refl }; strid = refl; vid = refl; and_ = refl; withtype = refl }
quiet-is f (reserved p res.End ∷ r) h = record { plain = record { ties = refl; bar = refl; atom = refl; ty = refl }; strid = refl; vid = refl; and_ = refl; withtype = refl }
quiet-is f (reserved p res.Val ∷ r) h = record { plain = record { ties = refl; bar = refl; atom = refl; ty = refl }; strid = refl; vid = refl; and_ = refl; withtype = refl }
quiet-is f (reserved p res.Fun ∷ r) h = record { plain = record { ties = refl; bar = refl; atom = refl; ty = refl }; strid = refl; vid = refl; and_ = refl; withtype = refl }
quiet-is f (reserved p res.TypeWord ∷ r) h = record { plain = record { ties = refl; bar = refl; atom = refl; ty = refl }; strid = refl; vid = refl; and_ = refl; withtype = refl }
quiet-is f (reserved p res.Datatype ∷ r) h = record { plain = record { ties = refl; bar = refl; atom = refl; ty = refl }; strid = refl; vid = refl; and_ = refl; withtype = refl }
quiet-is f (reserved p res.Exception ∷ r) h = record { plain = record { ties = refl; bar = refl; atom = refl; ty = refl }; strid = refl; vid = refl; and_ = refl; withtype = refl }
quiet-is f (reserved p res.Local ∷ r) h = record { plain = record { ties = refl; bar = refl; atom = refl; ty = refl }; strid = refl; vid = refl; and_ = refl; withtype = refl }
quiet-is f (reserved p res.Open ∷ r) h = record { plain = record { ties = refl; bar = refl; atom = refl; ty = refl }; strid = refl; vid = refl; and_ = refl; withtype = refl }
quiet-is f (reserved p res.Infix ∷ r) h = record { plain = record { ties = refl; bar = refl; atom = refl; ty = refl }; strid = refl; vid = refl; and_ = refl; withtype = refl }
quiet-is f (reserved p res.Infixr ∷ r) h = record { plain = record { ties = refl; bar = refl; atom = refl; ty = refl }; strid = refl; vid = refl; and_ = refl; withtype = refl }
quiet-is f (reserved p res.Nonfix ∷ r) h = record { plain = record { ties = refl; bar = refl; atom = refl; ty = refl }; strid = refl; vid = refl; and_ = refl; withtype = refl }
quiet-is f _ h = not_true h

pub dec-quiet : {f : Fixity} {i o : List Terminal} {d : Dec} → Declare f i d o → quiet i ≡ true
dec-quiet (of_val p a s b) = refl
dec-quiet (of_fun p a s b) = refl
dec-quiet (of_type p b) = refl
dec-quiet (of_datatype p b) = refl
dec-quiet (of_withtype p q b c) = refl
dec-quiet (of_replication p q r t c) = refl
dec-quiet (of_exception p b) = refl
dec-quiet (of_local p q r d e) = refl
dec-quiet (of_open p d) = refl
dec-quiet (of_infix p n d) = refl
dec-quiet (of_infixr p n d) = refl
dec-quiet (of_nonfix p d) = refl

pub decs-quiet : {f : Fixity} {i o : List Terminal} {ds : Decs} → Declares f i ds o → quiet o ≡ true → quiet i ≡ true
decs-quiet nothing_more h = h
decs-quiet (of_semicolon p d) h = refl
decs-quiet (of_dec d ds) h = dec-quiet d

-- declarations end here
pub record Ends (o : List Terminal) : Type 0 where
  pub quiet : quiet o ≡ true
  pub no_dec : is_dec_start (dec_start o) ≡ false
  pub semicolon : after_word res.Semicolon o ≡ None

pub ends-in : (p : ℕ) (o : List Terminal) → Ends (reserved p res.In ∷ o)
ends-in p o = record { quiet = refl; no_dec = refl; semicolon = refl }

pub ends-end : (p : ℕ) (o : List Terminal) → Ends (reserved p res.End ∷ o)
ends-end p o = record { quiet = refl; no_dec = refl; semicolon = refl }

pub ends-nil : Ends []
ends-nil = record { quiet = refl; no_dec = refl; semicolon = refl }

pub no-bar : (i : List Terminal) → begins_bar i ≡ false → after_word res.Bar i ≡ None
no-bar i h = go (after-is res.Bar i) h
  where
    go : {i : List Terminal} {v : Option (List Terminal)} → AfterWord res.Bar i v → begins_bar i ≡ false → v ≡ None
    go (found p) h = not_false h
    go (absent n) h = refl

-- What begins an atomic expression.

pub names-start : {f : Fixity} {i o : List Terminal} {p : ℕ} {x : Placed LongVid} → NamesVid f i p x o → atom_start f i ≡ vid_start p x o
names-start {f} {i} {p} v = start v ∙ ap (vid_if p) (names-found v)
  where
    start : {f : Fixity} {i o : List Terminal} {p : ℕ} {x : Placed LongVid} → NamesVid f i p x o → atom_start f i ≡ vid_if p (names_vid f i)
    start (plain_long (alpha_vid p x) e) = refl
    start (plain_long (symbol_vid p x) e) = refl
    start (plain_long (star_vid p x) e) = refl
    start (qualified (long_alpha_vid p qs x)) = refl
    start (qualified (long_symbol_vid p qs x)) = refl
    start (qualified (long_star_vid p qs x)) = refl
    start (op_long p v) = refl

-- the function that looks, on what begins an atomic expression and an expression
pub begins_atom-found : {f : Fixity} {i : List Terminal} → BeginsAtom f i → begins_atom f i ≡ true
begins_atom-found (with_constant (is_number p n b)) = refl
begins_atom-found (with_constant (is_constant p c)) = refl
begins_atom-found (with_vid v) = let h = names-start v in rw h refl
begins_atom-found (with_equals p e) = rw e refl
begins_atom-found (with_brace p) = refl
begins_atom-found (with_hash p) = refl
begins_atom-found (with_paren p) = refl
begins_atom-found (with_bracket p) = refl
begins_atom-found (with_let p) = refl

pub atom-begins : {f : Fixity} {i o : List Terminal} {e : Exp} → Atom f i e o → begins_atom f i ≡ true
atom-begins (of_constant (is_number p n b)) = refl
atom-begins (of_constant (is_constant p c)) = refl
atom-begins (of_vid v) = let h = names-start v in rw h refl
atom-begins (of_equals p e) = rw e refl
atom-begins (of_no_row p q) = refl
atom-begins (of_row p q d) = refl
atom-begins (of_selector p l) = refl
atom-begins (of_unit p q) = refl
atom-begins (of_tuple p q r d ds) = refl
atom-begins (of_nil p q) = refl
atom-begins (of_list p q d) = refl
atom-begins (of_sequence p q r d ds) = refl
atom-begins (of_paren p q d) = refl
atom-begins (of_let p q r dd ds) = refl

-- a keyword begins no atomic expression
pub begins-start : (f : Fixity) (i : List Terminal) → begins_atom f i ≡ true → start_of i ≡ other_start
begins-start f (reserved p res.Raise ∷ r) e = not_true e
begins-start f (reserved p res.If ∷ r) e = not_true e
begins-start f (reserved p res.While ∷ r) e = not_true e
begins-start f (reserved p res.Case ∷ r) e = not_true e
begins-start f (reserved p res.Fn ∷ r) e = not_true e
begins-start f _ e = refl

pub atom-start : {f : Fixity} {i o : List Terminal} {e : Exp} → Atom f i e o → start_of i ≡ other_start
atom-start {f} {i} a = begins-start f i (atom-begins a)

pub true-or : (a b : Bool) → a ≡ true → (a || b) ≡ true
true-or a b e = rw e refl

pub begins-found : {f : Fixity} {l : ℕ} {i : List Terminal} → Begins f l i → begins f l i ≡ true
begins-found {f} {l} {i} (with_atom b) = true-or (begins_atom f i) (nat_le l 4 && is_keyword (start_of i)) (begins_atom-found b)
begins-found {l} (with_raise p h) = let c = le-leb l 4 h in rw c refl
begins-found {l} (with_if p h) = let c = le-leb l 4 h in rw c refl
begins-found {l} (with_while p h) = let c = le-leb l 4 h in rw c refl
begins-found {l} (with_case p h) = let c = le-leb l 4 h in rw c refl
begins-found {l} (with_fn p h) = let c = le-leb l 4 h in rw c refl

pub reads-begins : {f : Fixity} {i o : List Terminal} {t : Exp} (l : ℕ) → Reads f i t o → l ≤ level f t → begins f l i ≡ true
reads-begins {f} {i} l (of_atom d) h = true-or (begins_atom f i) (nat_le l 4 && is_keyword (start_of i)) (atom-begins d)
reads-begins {f} {i} l (of_app d da dbs) h = true-or (begins_atom f i) (nat_le l 4 && is_keyword (start_of i)) (atom-begins d)
reads-begins {f} l (of_chain l' r lt e d fs) h = let low : l ≤ l' = subst (λ (z : ℕ). l ≤ z) (chain-head fs).parts h in reads-begins l d (omega arith)
reads-begins l (of_typed p five e d t) h = reads-begins l d (omega arith)
reads-begins l (of_handle p e d m) h = reads-begins l d (omega arith)
reads-begins l (of_raise p d) h = let c = le-leb l 4 h in rw c refl
reads-begins l (of_if p q r a b d) h = let c = le-leb l 4 h in rw c refl
reads-begins l (of_while p q a b) h = let c = le-leb l 4 h in rw c refl
reads-begins l (of_case p q d m) h = let c = le-leb l 4 h in rw c refl
reads-begins l (of_fn p m) h = let c = le-leb l 4 h in rw c refl

-- a bracket that closes begins no expression
pub begins-no_paren : (f : Fixity) (l : ℕ) (i : List Terminal) → begins f l i ≡ true → after_word res.RightParen i ≡ None
begins-no_paren f l i h = go (after-is res.RightParen i) h
  where
    never : (b : Bool) → (b && false) ≡ true → {A : Type 0} → A
    never true h = not_true h
    never false h = not_true h

    go : {i : List Terminal} {v : Option (List Terminal)} → AfterWord res.RightParen i v → begins f l i ≡ true → v ≡ None
    go (found p) h = never (nat_le l 4) h
    go (absent n) h = refl

pub begins-no_bracket : (f : Fixity) (l : ℕ) (i : List Terminal) → begins f l i ≡ true → after_word res.RightBracket i ≡ None
begins-no_bracket f l i h = go (after-is res.RightBracket i) h
  where
    never : (b : Bool) → (b && false) ≡ true → {A : Type 0} → A
    never true h = not_true h
    never false h = not_true h

    go : {i : List Terminal} {v : Option (List Terminal)} → AfterWord res.RightBracket i v → begins f l i ≡ true → v ≡ None
    go (found p) h = never (nat_le l 4) h
    go (absent n) h = refl

pub commas-begins : {f : Fixity} {i o : List Terminal} {es : Exps} → Commas f i es o → begins f 0 i ≡ true
commas-begins (last_exp d) = reads-begins 0 d (omega arith)
commas-begins (more_exps p d ds) = reads-begins 0 d (omega arith)

pub row-no_brace : {f : Fixity} {i o : List Terminal} {fs : ExpFields} → ExpRow f i fs o → after_word res.RightBrace i ≡ None
row-no_brace (last_exp_row {t} {i} p l d) = not-word res.RightBrace t (reserved p res.Equals ∷ i) (label-word l)
row-no_brace (more_exp_row {t} {i} p q l d ds) = not-word res.RightBrace t (reserved p res.Equals ∷ i) (label-word l)
