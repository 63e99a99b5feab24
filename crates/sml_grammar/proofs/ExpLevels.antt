-- What may stand at the head of the terminals where an expression or a declaration is read: the functions that look, as views.
use Rattle.std.proofs.Common.{◌≡◌, ℕ, suc, ◌≤◌, ◌<◌, List, ◌∷◌, Option, Some, None, Bool, true, false, ◌||◌, ◌&&◌, refl, arith, nat_le}
use Rattle.std.proofs.lemmas.Bool.{leb-true, leb-false, lt-leb}
use Rattle.mlc_names.specs.declared.token.Reserved.TheVariants as res
use Rattle.sml_tree.specs.Terminal.{Constant, LongVid, Terminal, reserved, number, constant, alpha, symbol, star, IsConstant, is_number, is_constant, alpha_vid, symbol_vid, star_vid}
use Rattle.sml_tree.specs.declared.ident.Vid.TheVariants.{Named, Equals}
use Rattle.sml_tree.specs.declared.fixity.Infix.{Infix}
use Rattle.sml_tree.specs.Fixity.{Fixity, fix_of}
use Rattle.sml_tree.specs.ReadTree.{Placed, Joint, and_also, or_else, infixed, Parts, last_part, part, Rules, last_rule, rule}
use Rattle.sml_tree.specs.Levels.{infix_level, joint_level, parts_level, tie, at_least, could_go_on, goes_on, rules_go_on}
use Rattle.sml_tree.specs.Grammar.{IsJoint, is_andalso, is_orelse, is_infix, is_infix_equals, NamesVid}
use Rattle.sml_grammar.specs.Terminals.{Taken, place_at, names_vid, infix_if, short}
use Rattle.sml_grammar.specs.Expressions.{AtomStart, constant_start, vid_start, brace_start, hash_start, paren_start, bracket_start, let_start, no_atom, vid_if, equals_unless, atom_start, is_atom_start, begins_atom, begins, is_keyword, Start, raise_start, if_start, while_start, case_start, fn_start, other_start, start_of, Next, joint, mark, handler, nothing, infix_next, equals_next, next_of, DecStart, val_start, fun_start, type_start, datatype_start, exception_start, local_start, open_start, infix_start, infixr_start, nonfix_start, no_dec, dec_start}
use Rattle.sml_grammar.specs.Begins.{BeginsAtom, with_constant, with_vid, with_equals, with_brace, with_hash, with_paren, with_bracket, with_let, Begins, with_atom, with_raise, with_if, with_while, with_case, with_fn}
use Rattle.sml_grammar.proofs.Answers.{or_split, not_true}
use Rattle.sml_grammar.proofs.Vids.{names-is}

-- what may follow an expression
pub data NextIs (f : Fixity) : List Terminal → Next → Type 0 where
  is_joint : {t : Terminal} {j : Joint} {o : List Terminal} → IsJoint f t j → NextIs f (t ∷ o) (joint j o)
  is_mark : {o : List Terminal} (p : ℕ) → NextIs f (reserved p res.Colon ∷ o) (mark o)
  is_handler : {o : List Terminal} (p : ℕ) → NextIs f (reserved p res.Handle ∷ o) (handler o)
  is_nothing : {i : List Terminal} → tie f i ≡ None → NextIs f i nothing

alpha-next : (f : Fixity) (p x : ℕ) (o : List Terminal) (m : Option Infix) → fix_of (Named x) f ≡ m → NextIs f (alpha p x ∷ o) (infix_next (infix_if (record { place = p; it = x }) o m))
alpha-next f p x o (Some d) e = is_joint (is_infix (alpha_vid p x) e)
alpha-next f p x o None e = is_nothing (rw e refl)

symbol-next : (f : Fixity) (p x : ℕ) (o : List Terminal) (m : Option Infix) → fix_of (Named x) f ≡ m → NextIs f (symbol p x ∷ o) (infix_next (infix_if (record { place = p; it = x }) o m))
symbol-next f p x o (Some d) e = is_joint (is_infix (symbol_vid p x) e)
symbol-next f p x o None e = is_nothing (rw e refl)

star-next : (f : Fixity) (p x : ℕ) (o : List Terminal) (m : Option Infix) → fix_of (Named x) f ≡ m → NextIs f (star p x ∷ o) (infix_next (infix_if (record { place = p; it = x }) o m))
star-next f p x o (Some d) e = is_joint (is_infix (star_vid p x) e)
star-next f p x o None e = is_nothing (rw e refl)

equals-next : (f : Fixity) (p : ℕ) (o : List Terminal) (m : Option Infix) → fix_of Equals f ≡ m → NextIs f (reserved p res.Equals ∷ o) (equals_next m p o)
equals-next f p o (Some d) e = is_joint (is_infix_equals p e)
equals-next f p o None e = is_nothing (rw e refl)

pub next-is : (f : Fixity) (i : List Terminal) → NextIs f i (next_of f i)
next-is f (reserved p res.Colon ∷ o) = is_mark p
next-is f (reserved p res.Handle ∷ o) = is_handler p
next-is f (reserved p res.Andalso ∷ o) = is_joint (is_andalso p)
next-is f (reserved p res.Orelse ∷ o) = is_joint (is_orelse p)
next-is f (reserved p res.Equals ∷ o) = equals-next f p o (fix_of Equals f) refl
next-is f (alpha p x ∷ o) = alpha-next f p x o (fix_of (Named x) f) refl
next-is f (symbol p x ∷ o) = symbol-next f p x o (fix_of (Named x) f) refl
next-is f (star p x ∷ o) = star-next f p x o (fix_of (Named x) f) refl
next-is f _ = is_nothing refl

-- a joint's terminal

pub joint-tie : {f : Fixity} {t : Terminal} {j : Joint} (o : List Terminal) → IsJoint f t j → tie f (t ∷ o) ≡ Some (joint_level f j)
joint-tie o (is_andalso p) = refl
joint-tie o (is_orelse p) = refl
joint-tie o (is_infix (alpha_vid p x) e) = rw e refl
joint-tie o (is_infix (symbol_vid p x) e) = rw e refl
joint-tie o (is_infix (star_vid p x) e) = rw e refl
joint-tie o (is_infix_equals p e) = rw e refl

pub joint-next : {f : Fixity} {t : Terminal} {j : Joint} (o : List Terminal) → IsJoint f t j → next_of f (t ∷ o) ≡ joint j o
joint-next o (is_andalso p) = refl
joint-next o (is_orelse p) = refl
joint-next o (is_infix (alpha_vid p x) e) = rw e refl
joint-next o (is_infix (symbol_vid p x) e) = rw e refl
joint-next o (is_infix (star_vid p x) e) = rw e refl
joint-next o (is_infix_equals p e) = rw e refl

pub joint-no_atom : {f : Fixity} {t : Terminal} {j : Joint} (o : List Terminal) → IsJoint f t j → begins_atom f (t ∷ o) ≡ false
joint-no_atom o (is_andalso p) = refl
joint-no_atom o (is_orelse p) = refl
joint-no_atom o (is_infix (alpha_vid p x) e) = rw e refl
joint-no_atom o (is_infix (symbol_vid p x) e) = rw e refl
joint-no_atom o (is_infix (star_vid p x) e) = rw e refl
joint-no_atom o (is_infix_equals p e) = rw e refl

-- Levels.

at_least-more : (k l : ℕ) (m : Option ℕ) → k ≤ l → at_least k m ≡ false → at_least l m ≡ false
at_least-more k l None le e = refl
at_least-more k l (Some n) le e = let lt : n < k = leb-false k n e in lt-leb l n (omega arith)

-- what can't go on at a level can't at a higher one
pub stops-more : (f : Fixity) (k l : ℕ) (i : List Terminal) → k ≤ l → could_go_on f k i ≡ false → could_go_on f l i ≡ false
stops-more f k l i le e = at_least-more k l (tie f i) le e

-- the end of a list of rules can't go on, so nothing can
pub rules-stop : (f : Fixity) (rs : Rules) (i : List Terminal) → rules_go_on f rs i ≡ false → could_go_on f 0 i ≡ false
rules-stop f (last_rule p e) i h = (or_split (could_go_on f 0 i) (goes_on f e i) h).0
rules-stop f (rule p e rs) i h = rules-stop f rs i h

-- where some phrase could go on, one of the lowest level could
pub never : (n : ℕ) (m : Option ℕ) → m ≡ Some n → at_least 0 m ≡ false → {A : Type 0} → A
never n None e h = absurd (cc)
never n (Some k) e h = let lt : k < 0 = leb-false 0 k h in absurd (omega arith)

pub level-low : (f : Fixity) (j : Joint) → suc (joint_level f j) ≤ 1000
level-low f and_also = omega arith
level-low f or_else = omega arith
level-low f (infixed v) = go (fix_of v.it f)
  where
    go : (m : Option Infix) → suc (infix_level m) ≤ 1000
    go None = omega arith
    go (Some d) = omega arith

-- no joint has the level of a typed expression, nor that of handle
pub level-gap : (f : Fixity) (j : Joint) → 5 ≤ joint_level f j → 6 ≤ joint_level f j
level-gap f and_also h = absurd (omega arith)
level-gap f or_else h = absurd (omega arith)
level-gap f (infixed v) h = go (fix_of v.it f)
  where
    go : (m : Option Infix) → 6 ≤ infix_level m
    go None = omega arith
    go (Some d) = omega arith

pub level-pos : (f : Fixity) (j : Joint) → 1 ≤ joint_level f j
level-pos f and_also = omega arith
level-pos f or_else = omega arith
level-pos f (infixed v) = go (fix_of v.it f)
  where
    go : (m : Option Infix) → 1 ≤ infix_level m
    go None = omega arith
    go (Some d) = omega arith

-- what an expression begins with, if a keyword

pub data StartIs : List Terminal → Start → Type 0 where
  is_raise : {o : List Terminal} (p : ℕ) → StartIs (reserved p res.Raise ∷ o) (raise_start p o)
  is_if : {o : List Terminal} (p : ℕ) → StartIs (reserved p res.If ∷ o) (if_start p o)
  is_while : {o : List Terminal} (p : ℕ) → StartIs (reserved p res.While ∷ o) (while_start p o)
  is_case : {o : List Terminal} (p : ℕ) → StartIs (reserved p res.Case ∷ o) (case_start p o)
  is_fn : {o : List Terminal} (p : ℕ) → StartIs (reserved p res.Fn ∷ o) (fn_start p o)
  is_other : {i : List Terminal} → StartIs i other_start

pub start-is : (i : List Terminal) → StartIs i (start_of i)
start-is (reserved p res.Raise ∷ o) = is_raise p
start-is (reserved p res.If ∷ o) = is_if p
start-is (reserved p res.While ∷ o) = is_while p
start-is (reserved p res.Case ∷ o) = is_case p
start-is (reserved p res.Fn ∷ o) = is_fn p
start-is _ = is_other

-- what an atomic expression begins with

pub data AtomStartIs (f : Fixity) : List Terminal → AtomStart → Type 0 where
  is_constant_start : {t : Terminal} {p : ℕ} {c : Constant} {o : List Terminal} → IsConstant t p c → AtomStartIs f (t ∷ o) (constant_start p c o)
  is_vid_start : {i o : List Terminal} {p : ℕ} {x : Placed LongVid} → NamesVid f i p x o → AtomStartIs f i (vid_start p x o)
  is_equals_start : {o : List Terminal} (p : ℕ) → fix_of Equals f ≡ None → AtomStartIs f (reserved p res.Equals ∷ o) (vid_start p (record { place = p; it = short Equals }) o)
  is_brace_start : {o : List Terminal} (p : ℕ) → AtomStartIs f (reserved p res.LeftBrace ∷ o) (brace_start p o)
  is_hash_start : {o : List Terminal} (p : ℕ) → AtomStartIs f (reserved p res.Hash ∷ o) (hash_start p o)
  is_paren_start : {o : List Terminal} (p : ℕ) → AtomStartIs f (reserved p res.LeftParen ∷ o) (paren_start p o)
  is_bracket_start : {o : List Terminal} (p : ℕ) → AtomStartIs f (reserved p res.LeftBracket ∷ o) (bracket_start p o)
  is_let_start : {o : List Terminal} (p : ℕ) → AtomStartIs f (reserved p res.Let ∷ o) (let_start p o)
  is_no_atom : {i : List Terminal} → AtomStartIs f i no_atom

names-start : (f : Fixity) (i : List Terminal) → AtomStartIs f i (vid_if (place_at i) (names_vid f i))
names-start f i = go (names_vid f i) refl
  where
    go : (v : Option (Taken (Placed LongVid))) → names_vid f i ≡ v → AtomStartIs f i (vid_if (place_at i) v)
    go None e = is_no_atom
    go (Some x) e = is_vid_start (names-is f i x.it x.rest e)

equals-start : (f : Fixity) (p : ℕ) (o : List Terminal) (m : Option Infix) → fix_of Equals f ≡ m → AtomStartIs f (reserved p res.Equals ∷ o) (equals_unless m p o)
equals-start f p o None e = is_equals_start p e
equals-start f p o (Some d) e = is_no_atom

pub atom-start-is : (f : Fixity) (i : List Terminal) → AtomStartIs f i (atom_start f i)
atom-start-is f (reserved p res.LeftBrace ∷ o) = is_brace_start p
atom-start-is f (reserved p res.Hash ∷ o) = is_hash_start p
atom-start-is f (reserved p res.LeftParen ∷ o) = is_paren_start p
atom-start-is f (reserved p res.LeftBracket ∷ o) = is_bracket_start p
atom-start-is f (reserved p res.Let ∷ o) = is_let_start p
atom-start-is f (reserved p res.Equals ∷ o) = equals-start f p o (fix_of Equals f) refl
atom-start-is f (number p n plain ∷ o) = is_constant_start (is_number p n plain)
atom-start-is f (constant p c ∷ o) = is_constant_start (is_constant p c)
atom-start-is f i = names-start f i

-- what is told to begin an expression does

pub begins_atom-is : {f : Fixity} {i : List Terminal} → begins_atom f i ≡ true → BeginsAtom f i
begins_atom-is {f} {i} h = go (atom-start-is f i) h
  where
    go : {i : List Terminal} {s : AtomStart} → AtomStartIs f i s → is_atom_start s ≡ true → BeginsAtom f i
    go (is_constant_start c) h = with_constant c
    go (is_vid_start v) h = with_vid v
    go (is_equals_start p e) h = with_equals p e
    go (is_brace_start p) h = with_brace p
    go (is_hash_start p) h = with_hash p
    go (is_paren_start p) h = with_paren p
    go (is_bracket_start p) h = with_bracket p
    go (is_let_start p) h = with_let p
    go is_no_atom h = not_true h

pub begins-is : {f : Fixity} {l : ℕ} {i : List Terminal} → begins f l i ≡ true → Begins f l i
begins-is {f} {l} {i} h = atom (begins_atom f i) refl h
  where
    word : {i : List Terminal} {s : Start} → StartIs i s → l ≤ 4 → is_keyword s ≡ true → Begins f l i
    word (is_raise p) le h = with_raise p le
    word (is_if p) le h = with_if p le
    word (is_while p) le h = with_while p le
    word (is_case p) le h = with_case p le
    word (is_fn p) le h = with_fn p le
    word is_other le h = not_true h

    low : (b : Bool) → nat_le l 4 ≡ b → (b && is_keyword (start_of i)) ≡ true → Begins f l i
    low true e h = word (start-is i) (leb-true l 4 e) h
    low false e h = not_true h

    atom : (b : Bool) → begins_atom f i ≡ b → (b || (nat_le l 4 && is_keyword (start_of i))) ≡ true → Begins f l i
    atom true e h = with_atom (begins_atom-is e)
    atom false e h = low (nat_le l 4) refl h

-- what a declaration begins with

pub data DecStartIs : List Terminal → DecStart → Type 0 where
  is_val : {o : List Terminal} (p : ℕ) → DecStartIs (reserved p res.Val ∷ o) (val_start p o)
  is_fun : {o : List Terminal} (p : ℕ) → DecStartIs (reserved p res.Fun ∷ o) (fun_start p o)
  is_type : {o : List Terminal} (p : ℕ) → DecStartIs (reserved p res.TypeWord ∷ o) (type_start p o)
  is_datatype : {o : List Terminal} (p : ℕ) → DecStartIs (reserved p res.Datatype ∷ o) (datatype_start p o)
  is_exception : {o : List Terminal} (p : ℕ) → DecStartIs (reserved p res.Exception ∷ o) (exception_start p o)
  is_local : {o : List Terminal} (p : ℕ) → DecStartIs (reserved p res.Local ∷ o) (local_start p o)
  is_open : {o : List Terminal} (p : ℕ) → DecStartIs (reserved p res.Open ∷ o) (open_start p o)
  is_infix_dec : {o : List Terminal} (p : ℕ) → DecStartIs (reserved p res.Infix ∷ o) (infix_start p o)
  is_infixr_dec : {o : List Terminal} (p : ℕ) → DecStartIs (reserved p res.Infixr ∷ o) (infixr_start p o)
  is_nonfix_dec : {o : List Terminal} (p : ℕ) → DecStartIs (reserved p res.Nonfix ∷ o) (nonfix_start p o)
  is_no_dec : {i : List Terminal} → DecStartIs i no_dec

pub dec-start-is : (i : List Terminal) → DecStartIs i (dec_start i)
dec-start-is (reserved p res.Val ∷ o) = is_val p
dec-start-is (reserved p res.Fun ∷ o) = is_fun p
dec-start-is (reserved p res.TypeWord ∷ o) = is_type p
dec-start-is (reserved p res.Datatype ∷ o) = is_datatype p
dec-start-is (reserved p res.Exception ∷ o) = is_exception p
dec-start-is (reserved p res.Local ∷ o) = is_local p
dec-start-is (reserved p res.Open ∷ o) = is_open p
dec-start-is (reserved p res.Infix ∷ o) = is_infix_dec p
dec-start-is (reserved p res.Infixr ∷ o) = is_infixr_dec p
dec-start-is (reserved p res.Nonfix ∷ o) = is_nonfix_dec p
dec-start-is _ = is_no_dec
