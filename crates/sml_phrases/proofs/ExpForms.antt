-- What the forms of expressions are read as.
use Rattle.std.proofs.Common.{◌≡◌, ℕ, suc, max, ◌<◌, ◌≤◌, List, [], ◌∷◌, length, true, false, Option, Some, None, refl, sym, ap, arith}
use Rattle.std.proofs.lemmas.Bool.{le-leb, lt-leb}
use Rattle.mlc_names.specs.declared.token.Reserved.{Reserved}
use Rattle.mlc_names.specs.declared.token.Reserved.TheVariants as res
use Rattle.sml_tree.specs.Terminal.{Terminal, reserved, number, constant, alpha, symbol, star, long_alpha, long_symbol, long_star, type_var}
use Rattle.sml_tree.specs.Fixity.{Fixity}
use Rattle.sml_tree.specs.Bare.{bare_exp, at, exp_list}
use Rattle.sml_tree.specs.Derived.{app_of}
use Rattle.sml_tree.specs.ReadTree as read
use Rattle.sml_tree.specs.ReadTree.{Placed, Exps, exp, no_exps, ExpFields, no_exp_fields, Decs, record_exp, unit_exp, tuple_exp, list_exp, sequence, paren_exp, let_in, app, if_then, while, case, exp_place}
use Rattle.sml_tree.specs.Depth.{depth, depth_exps}
use Rattle.sml_tree.specs.Levels.{after, level}
use Rattle.sml_grammar.specs.Answer.{Read, Answer, ok, bad, deep, read, then_read, whole}
use Rattle.sml_grammar.specs.Terminals.{after_word, on_some, word_then, no_state, place_at, tail, word_at}
use Rattle.sml_grammar.specs.Expressions.{Reader, Readers, AtomStart, vid_if, equals_unless, atom_start, atom_by, Start, start_of, raise_start, if_start, while_start, case_start, fn_start, other_start, brace_start, paren_start, bracket_start, let_start, brace_exp, bracket_exp, paren_in, let_exp, if_rest, while_rest, case_rest, apply_to, application, applied, begins_atom, atoms_turn, read_match, commas_turn, semicolons_turn, row_turn}
use Rattle.sml_phrases.specs.ExpressionsRead.{closed_exps, closed_rows}
use Rattle.sml_phrases.proofs.ExpLemmas.{word-in, closed-in}

-- brackets, after the first terminal
module _ (self : Reader) (f : Fixity) (p : ℕ) (i : List Terminal) where
  pub brace-rows : after_word res.RightBrace i ≡ None → brace_exp self f p i ≡ then_read (closed_rows self f i) (λ fs o. read (record_exp p fs) o)
  brace-rows e = rw e (sym (closed-in (whole (row_turn self f) no_state i) res.RightBrace (record_exp p)))

  module _ (r : Read read.Exp) (none : after_word res.RightParen i ≡ None) (e : self f 0 i ≡ ok r) where
    pub paren-tuple : {m : List Terminal} → after_word res.Comma r.rest ≡ Some m → paren_in self f p i ≡ then_read (closed_exps res.Comma res.RightParen self f m) (λ es o. read (tuple_exp p (exp r.tree es)) o)
    paren-tuple {m} c = rw (none, e, c) (sym (closed-in (whole (commas_turn self f) no_state m) res.RightParen (λ es. tuple_exp p (exp r.tree es))))

    pub paren-sequence : {m : List Terminal} → after_word res.Comma r.rest ≡ None → after_word res.Semicolon r.rest ≡ Some m →
        paren_in self f p i ≡ then_read (closed_exps res.Semicolon res.RightParen self f m) (λ es o. read (sequence p (exp r.tree es)) o)
    paren-sequence {m} c s = rw (none, e, c, s) (sym (closed-in (whole (semicolons_turn self f) no_state m) res.RightParen (λ es. sequence p (exp r.tree es))))

    pub paren-one : {o : List Terminal} → after_word res.Comma r.rest ≡ None → after_word res.Semicolon r.rest ≡ None → after_word res.RightParen r.rest ≡ Some o → paren_in self f p i ≡ read (paren_exp p r.tree) o
    paren-one c s q = rw (none, e, c, s, q) refl

    pub paren-open : after_word res.Comma r.rest ≡ None → after_word res.Semicolon r.rest ≡ None → after_word res.RightParen r.rest ≡ None → paren_in self f p i ≡ bad
    paren-open c s q = rw (none, e, c, s, q) refl

-- let
module _ (self : Readers) (f : Fixity) (p : ℕ) (i : List Terminal) (ds : Read Decs) (e : self.decs f i ≡ ok ds) where
  pub let-body : {m : List Terminal} → after_word res.In ds.rest ≡ Some m →
      let_exp self f p i ≡ then_read (closed_exps res.Semicolon res.End self.exp (after f ds.tree) m) (λ es o. read (let_in p ds.tree es) o)
  let-body {m} h = rw (e, h) (sym (closed-in (whole (semicolons_turn self.exp (after f ds.tree)) no_state m) res.End (let_in p ds.tree)))

-- forms that begin with a keyword
module _ (self : Reader) (f : Fixity) (p : ℕ) where
  pub if-as : (a : Read read.Exp) → if_rest self f p a.tree a.rest ≡ then_read (word_then res.Then (self f 0) a.rest) (λ b k. then_read (word_then res.Else (self f 0) k) (λ c o. read (if_then p a.tree b c) o))
  if-as a = outer (after_word res.Then a.rest)
    where
      inner : (b : read.Exp) (k : List Terminal) → word_then res.Else (λ q. then_read (self f 0 q) (λ c o. read (if_then p a.tree b c) o)) k ≡ then_read (word_then res.Else (self f 0) k) (λ c o. read (if_then p a.tree b c) o)
      inner b k = word-in res.Else (self f 0) (λ c o. read (if_then p a.tree b c) o) k

      both : (m : Answer read.Exp) → then_read m (λ b k. word_then res.Else (λ q. then_read (self f 0 q) (λ c o. read (if_then p a.tree b c) o)) k) ≡ then_read m (λ b k. then_read (word_then res.Else (self f 0) k) (λ c o. read (if_then p a.tree b c) o))
      both (ok x) = inner x.tree x.rest
      both bad = refl
      both deep = refl

      outer : (v : Option (List Terminal)) → on_some v (λ m. then_read (self f 0 m) (λ b k. word_then res.Else (λ q. then_read (self f 0 q) (λ c o. read (if_then p a.tree b c) o)) k)) bad
          ≡ then_read (on_some v (self f 0) bad) (λ b k. then_read (word_then res.Else (self f 0) k) (λ c o. read (if_then p a.tree b c) o))
      outer None = refl
      outer (Some m) = both (self f 0 m)

  pub while-as : (a : Read read.Exp) → while_rest self f p a.tree a.rest ≡ then_read (word_then res.Do (self f 0) a.rest) (λ b o. read (while p a.tree b) o)
  while-as a = word-in res.Do (self f 0) (λ b o. read (while p a.tree b) o) a.rest

-- which form it is
form-at : {w : Reserved} (i : List Terminal) → word_at i ≡ Some w → i ≡ reserved (place_at i) w ∷ tail i
form-at [] e = absurd (cc)
form-at (reserved p v ∷ o) e = ap (λ z. reserved p z ∷ o) (Rattle.sml_grammar.proofs.Answers.got_some e)
form-at (number p n plain ∷ o) e = absurd (cc)
form-at (constant p c ∷ o) e = absurd (cc)
form-at (alpha p x ∷ o) e = absurd (cc)
form-at (symbol p x ∷ o) e = absurd (cc)
form-at (star p x ∷ o) e = absurd (cc)
form-at (long_alpha p qs x ∷ o) e = absurd (cc)
form-at (long_symbol p qs x ∷ o) e = absurd (cc)
form-at (long_star p qs x ∷ o) e = absurd (cc)
form-at (type_var p a ∷ o) e = absurd (cc)

pub at-while : (i : List Terminal) → word_at i ≡ Some res.While → start_of i ≡ while_start (place_at i) (tail i)
at-while i e = ap start_of (form-at i e)

pub at-fn : (i : List Terminal) → word_at i ≡ Some res.Fn → start_of i ≡ fn_start (place_at i) (tail i)
at-fn i e = ap start_of (form-at i e)

-- applications
module _ (self : Readers) (n : ℕ) (f : Fixity) (i : List Terminal) (r : Read read.Exp) (e : atom_by self f (atom_start f i) ≡ ok r) where
  pub apply-alone : begins_atom f r.rest ≡ false → application self n f i ≡ ok r
  apply-alone b = rw (e, b) refl

  pub apply-deep : begins_atom f r.rest ≡ true → n < depth r.tree → application self n f i ≡ deep
  apply-deep b h = let c = lt-leb (depth r.tree) n h in rw (e, b, c) refl

  pub apply-goes : begins_atom f r.rest ≡ true → depth r.tree ≤ n → application self n f i ≡ then_read (whole (atoms_turn self.atom f) no_state r.rest) (λ es o. read (applied r.tree es) o)
  apply-goes b h = let c = le-leb (depth r.tree) n h in rw (e, b, c) refl

-- what is applied to something
pub applied-bare : (file : ℕ) (e : read.Exp) (es : Exps) → bare_exp file (applied e es) ≡ app_of (at file (exp_place e)) (bare_exp file e) (exp_list file es)
applied-bare file e no_exps = refl
applied-bare file e (exp a es) = refl

pub applied-depth : (file : ℕ) (e : read.Exp) (es : Exps) → 0 < length (exp_list file es) → depth (applied e es) ≡ suc (max (depth e) (depth_exps es))
applied-depth file e no_exps h = absurd (omega arith)
applied-depth file e (exp a es) h = refl

pub applied-place : (e : read.Exp) (es : Exps) → exp_place (applied e es) ≡ exp_place e
applied-place e no_exps = refl
applied-place e (exp a es) = refl

pub applied-level : (f : Fixity) (file : ℕ) (e : read.Exp) (es : Exps) → 0 < length (exp_list file es) → level f (applied e es) ≡ 1000
applied-level f file e no_exps h = absurd (omega arith)
applied-level f file e (exp a es) h = refl
