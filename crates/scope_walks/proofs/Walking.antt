-- Walks, one part after the other.
use Rattle.std.proofs.Common.{◌≡◌, ◌<◌, ◌≤◌, ◌+◌, ◌-◌, ℕ, Bool, true, false, List, [], ◌∷◌, ◌++◌, map, filter, take, drop, length, reverse, get_or, refl, sym, ap, ap₂, subst, ◌∙◌, append_assoc, arith}
use Rattle.std.specs.Prelude.{IfOk, IsTrue, Result, Ok, Err}
use Rattle.std.specs.List.{Contains}
use Rattle.std.proofs.Math.Seq.{take-append_seam, drop-append_seam}
use Rattle.std.proofs.lemmas.List.{append-nil, length-append, take-append-drop, take_all, take_more}
use Rattle.std.proofs.lemmas.List.Elements.{Contains-get_or}
use Rattle.sml_tree.specs.BareTree as bare
use Rattle.sml_tree.specs.Phrases.{Phrase}
use Rattle.sml_tree.specs.TreeOf.{dec_of, decs_of}
use Rattle.sml_tree.specs.declared.ident.Vid.{Vid}
use Rattle.sml_tree.specs.declared.tree.Dec.{Dec}
use Rattle.core_rules.proofs.Fitting.{not-false}
use Rattle.core_rules.specs.Initial.{initial_env, prelude_env}
use Rattle.core_rules.specs.Unbound.{all_in, binds_names, decs_in, decs_names, dec_names, rec_names}
use Rattle.core_rules.specs.Values.{Env, plus}
use Rattle.name_scopes.specs.Covering.{Brings, Covers, is_written}
use Rattle.name_scopes.specs.Entries.{variable_entries}
use Rattle.name_scopes.specs.Nodes.{dec_phrase}
use Rattle.name_scopes.specs.Patterns.{AreVariables, binds_vids}
use Rattle.name_scopes.specs.Placed.{AnyAt, Brought, Declared, FoundAt, Walked}
use Rattle.name_scopes.specs.declared.bound.Bound.{Bound}
use Rattle.scope_walks.specs.Closing.{Closes}
use Rattle.scope_walks.specs.Projects.{standard_env}
use Rattle.name_scopes.specs.declared.sought.Sought.{Sought}
use Rattle.name_scopes.proofs.Covering.{both-bring, nothing-brings, variables-bring-turned}
use Rattle.name_scopes.proofs.DecNodes.{decs-before, decs-last, names-longer}
use Rattle.name_scopes.proofs.Placing.{in-map}
use Rattle.name_scopes.proofs.Variables.{binds-written}

never : {A : Type 0} → IsTrue false → A
never h = not-false (sym h)

-- What was found in a part was found in the whole.

pub walked-for : {P Q : Env → Type 0} (b : Bool) (old mid new : List Bound) → mid ≡ old → ((e : Env) → P e → Q e) → Walked b mid new P → Walked b old new Q
walked-for b old mid new m f w = record { right = λ h e c. f e (w.right h e (subst (λ s. Covers s e) (sym m) c)); same = λ n. w.same n ∙ m }

pub walked-if : {P Q : Env → Type 0} {E : Type 0} (r : Result Bool E) (old mid new : List Bound) → mid ≡ old → ((e : Env) → P e → Q e) → IfOk r (λ b. Walked b mid new P)
    → IfOk r (λ b. Walked b old new Q)
walked-if (Ok b) old mid new m f w = walked-for b old mid new m f w
walked-if (Err x) old mid new m f w = w

pub found-true : {P Q : Env → Type 0} (b : Bool) (old mid new : List Bound) → b ≡ true → mid ≡ old → ((e : Env) → P e → Q e) → Walked b mid new P → Walked true old new Q
found-true {P} {Q} b old mid new t m f w = subst (λ (b : Bool). Walked b old new Q) t (walked-for b old mid new m f w)

pub none-found : {Q : Env → Type 0} (old now : List Bound) → now ≡ old → Walked false old now Q
none-found old now e = record { right = λ h. never h; same = λ n. e }

-- by a look that changes nothing
pub looked : {P Q : Env → Type 0} (b : Bool) (old : List Bound) → ((e : Env) → P e → Q e) → (IsTrue b → (e : Env) → Covers old e → P e) → Walked b old old Q
looked b old f h = record { right = λ t e c. f e (h t e c); same = λ n. refl }

pub looked-true : {P Q : Env → Type 0} (b : Bool) (old mid new : List Bound) → b ≡ true → mid ≡ old → ((e : Env) → P e → Q e) → (IsTrue b → (e : Env) → Covers mid e → P e)
    → Walked true old new Q
looked-true b old mid new t m f h = record { right = λ u e c. f e (h t e (subst (λ s. Covers s e) (sym m) c)); same = λ n. not-false n }

-- Along a list.

in-all : {A : Type 0} (e : Env) (f : A → Phrase) (xs : List A) (x : A) → Contains xs x → Contains (all_in e (map f xs)) (record { scope = e; phrase = f x })
in-all e f xs x h = in-map (λ (y : Phrase). record { scope = e; phrase = y }) (map f xs) (f x) (in-map f xs x h)

pub is-in : {A : Type 0} (xs : List A) (i : ℕ) (x : A) → i < length xs → x ≡ get_or xs i x → Contains xs x
is-in xs i x lt e = subst (Contains xs) (sym e) (Contains-get_or xs i x lt)

pub any-in : {A : Type 0} (p : Sought) (e : Env) (f : A → Phrase) (xs : List A) (x : A) → Contains xs x → FoundAt p e (f x) → AnyAt p (all_in e (map f xs))
any-in p e f xs x h u = record { scoped = record { scope = e; phrase = f x }; is = in-all e f xs x h; at = u }

pub list-found : {A : Type 0} (f : A → Phrase) (p : Sought) (xs : List A) (i : ℕ) (x : A) (b : Bool) (old mid new : List Bound) → i < length xs → x ≡ get_or xs i x → b ≡ true → mid ≡ old
    → Walked b mid new (λ e. FoundAt p e (f x)) → Walked true old new (λ e. AnyAt p (all_in e (map f xs)))
list-found f p xs i x b old mid new lt e t m w = found-true b old mid new t m (λ d u. any-in p d f xs x (is-in xs i x lt e) u) w

-- Into a scope and out of it again.

pub left-again : (more old : List Bound) (n : ℕ) (now : List Bound) → n ≡ length old → now ≡ more ++ old → drop (length now - n) now ≡ old
left-again more old n now e f =
    let m = length-append more old in
    let l : length (more ++ old) - length old ≡ length more = omega (arith, m) in
    ap₂ (λ (s : List Bound) k. drop (length s - k) s) f e ∙ ap (λ k. drop k (more ++ old)) l ∙ drop-append_seam more old

pub inside-found : {P Q : Env → Type 0} (names : Env → Env) (b : Bool) (old mid new : List Bound) → b ≡ true → Brought old mid names → ((e : Env) → P (plus e (names e)) → Q e)
    → Walked b mid new P → Walked true old new Q
inside-found names b old mid new t g f w = record {
  right = λ h e c. f e (w.right t (plus e (names e)) (subst (λ (s : List Bound). Covers s (plus e (names e))) (sym g.is) (g.brings e c old e c)));
  same = λ n. not-false n;
}

pub inside-left : {P Q : Env → Type 0} (names : Env → Env) (b : Bool) (n : ℕ) (old mid new last : List Bound) → b ≡ false → n ≡ length old → Brought old mid names
    → Walked b mid new P → last ≡ drop (length new - n) new → Walked false old last Q
inside-left names b n old mid new last t l g w e = none-found old last (e ∙ left-again g.more old n new l (w.same t ∙ g.is))

pub brought-named : {old new : List Bound} {names names' : Env → Env} → ((e : Env) → names e ≡ names' e) → Brought old new names → Brought old new names'
brought-named n g = record { more = g.more; is = g.is; brings = λ e c. subst (Brings g.more) (n e) (g.brings e c) }

-- Declarations.

pub declared-true : {P Q : Env → Type 0} {names : Env → Env} (b : Bool) (old mid new : List Bound) → b ≡ true → mid ≡ old → ((e : Env) → P e → Q e) → Walked b mid new P → Declared true old new Q names
declared-true b old mid new t m f w = record { right = λ h e c. f e (w.right t e (subst (λ s. Covers s e) (sym m) c)); brought = λ n. not-false n }

-- by a look that changes nothing
pub seen-true : {P Q : Env → Type 0} {names : Env → Env} (b : Bool) (old mid new : List Bound) → b ≡ true → mid ≡ old → ((e : Env) → P e → Q e)
    → (IsTrue b → (e : Env) → Covers mid e → P e) → Declared true old new Q names
seen-true b old mid new t m f h = record { right = λ u e c. f e (h t e (subst (λ s. Covers s e) (sym m) c)); brought = λ n. not-false n }

pub declared-inside : {P Q : Env → Type 0} {names' : Env → Env} (names : Env → Env) (b : Bool) (old mid new : List Bound) → b ≡ true → Brought old mid names → ((e : Env) → P (plus e (names e)) → Q e)
    → Walked b mid new P → Declared true old new Q names'
declared-inside names b old mid new t g f w = record { right = (inside-found names b old mid new t g f w).right; brought = λ n. not-false n }

pub declared-for : {P Q : Env → Type 0} {names names' : Env → Env} (b : Bool) (old new : List Bound) → ((e : Env) → P e → Q e) → ((e : Env) → names e ≡ names' e) → Declared b old new P names
    → Declared b old new Q names'
declared-for {names = names} {names' = names'} b old new f n d = record { right = λ h e c. f e (d.right h e c); brought = λ h. named (d.brought h) }
  where
    named : Brought old new names → Brought old new names'
    named g = record { more = g.more; is = g.is; brings = λ e c. subst (Brings g.more) (n e) (g.brings e c) }

pub declared-if : {P Q : Env → Type 0} {names names' : Env → Env} {E : Type 0} (r : Result Bool E) (old new : List Bound) → ((e : Env) → P e → Q e) → ((e : Env) → names e ≡ names' e)
    → IfOk r (λ b. Declared b old new P names) → IfOk r (λ b. Declared b old new Q names')
declared-if (Ok b) old new f n d = declared-for b old new f n d
declared-if (Err x) old new f n d = d

-- from where nothing was changed before
pub declared-from : {P : Env → Type 0} {names : Env → Env} {b : Bool} (old mid new : List Bound) → mid ≡ old → Declared b mid new P names → Declared b old new P names
declared-from {P} {names} {b} old mid new e d = subst (λ s. Declared b s new P names) e d

-- in the first of two parts
pub first-found : {P Q : Env → Type 0} {names names' : Env → Env} (b : Bool) (old mid new : List Bound) → b ≡ true → ((e : Env) → P e → Q e) → Declared b old mid P names → Declared true old new Q names'
first-found b old mid new t f d = record { right = λ h e c. f e (d.right t e c); brought = λ n. not-false n }

-- and in declarations in front of an expression
pub found-in-decs : {P Q : Env → Type 0} {names : Env → Env} (b : Bool) (old mid new : List Bound) → b ≡ true → ((e : Env) → P e → Q e) → Declared b old mid P names → Walked true old new Q
found-in-decs b old mid new t f d = record { right = λ h e c. f e (d.right t e c); same = λ n. not-false n }

-- functions: what they bind is in scope in them, and stays
pub functions-if : (P : Env → Type 0) {Q : Env → Type 0} {names' : Env → Env} {E : Type 0} (names : Env → Env) (r : Result Bool E) (old mid new : List Bound) → Brought old mid names → ((e : Env) → P (plus e (names e)) → Q e)
    → ((e : Env) → names e ≡ names' e) → IfOk r (λ b. Walked b mid new P) → IfOk r (λ b. Declared b old new Q names')
functions-if P names (Ok b) old mid new g f n w = record {
  right = λ h e c. f e (w.right h (plus e (names e)) (subst (λ (s : List Bound). Covers s (plus e (names e))) (sym g.is) (g.brings e c old e c)));
  brought = λ h. record { more = g.more; is = w.same h ∙ g.is; brings = λ e c. subst (Brings g.more) (n e) (g.brings e c) };
}
functions-if P names (Err x) old mid new g f n w = w

-- `val`: what was brought behind `rec` is left, and all is brought
pub closes-named : {last new : List Bound} {vids : List Vid} {n : ℕ} {rs rs' : bare.Binds} → rs ≡ rs' → Closes last new vids n rs → Closes last new vids n rs'
closes-named {last} {new} {vids} {n} e c = subst (Closes last new vids n) e c

pub closed-if : {A E : Type 0} (r : Result A E) (last left mid new : List Bound) (vids : List Vid) (n : ℕ) (rs : bare.Binds) → left ≡ drop (length last - n) last
    → mid ≡ variable_entries (reverse vids) ++ left → IfOk r (λ u. Brought mid new (λ e. rec_names rs)) → IfOk r (λ u. Closes last new vids n rs)
closed-if (Err x) last left mid new vids n rs l m g = g
closed-if (Ok u) last left mid new vids n rs l m g = record {
  more = g.more ++ variable_entries (reverse vids);
  is = g.is ∙ ap (λ s. g.more ++ s) (m ∙ ap (λ s. variable_entries (reverse vids) ++ s) l) ∙ sym (append_assoc g.more (variable_entries (reverse vids)) (drop (length last - n) last));
  brings = λ e d c a.
      both-bring (variable_entries (reverse vids)) g.more d (rec_names rs) (variables-bring-turned vids d a)
      (g.brings (plus e d) (subst (λ (s : List Bound). Covers s (plus e d)) (sym m) (variables-bring-turned vids d a left e (subst (λ s. Covers s e) (sym l) c))));
}

pub val-closed : {Q : Env → Type 0} {names : Env → Env} (old one two last new : List Bound) (vids : List Vid) (n : ℕ) (bs rs : bare.Binds) → one ≡ old → Brought one two (λ e. rec_names rs) → last ≡ two
    → n ≡ length one → ((e : Env) → Covers one e → vids ≡ filter is_written (binds_vids e bs)) → Closes last new vids n rs → ((e : Env) → names e ≡ plus (binds_names e bs) (rec_names rs))
    → Declared false old new Q names
val-closed old one two last new vids n bs rs o g l m v c ns = record {
  right = λ h. never h;
  brought = λ h. record {
    more = c.more;
    is = c.is ∙ ap (λ s. c.more ++ s) (left-again g.more one n last m (l ∙ g.is) ∙ o);
    brings = λ e k. subst (Brings c.more) (sym (ns e)) (c.brings e (binds_names e bs) (subst (λ s. Covers s e) (sym (left-again g.more one n last m (l ∙ g.is) ∙ o)) k) (subst (λ vs. AreVariables vs (binds_names e bs)) (sym (v e (subst (λ s. Covers s e) (sym o) k))) (binds-written e bs)));
  };
}

-- `local`: what is found in its second part, and what is kept

pub second-found : {P Q : Env → Type 0} {names : Env → Env} {names' : Env → Env} (b : Bool) (old mid new : List Bound) (one : Env → Env) → b ≡ true → Brought old mid one
    → ((e : Env) → P (plus e (one e)) → Q e) → Declared b mid new P names → Declared true old new Q names'
second-found b old mid new one t g f d = record {
  right = λ h e c. f e (d.right t (plus e (one e)) (subst (λ (s : List Bound). Covers s (plus e (one e))) (sym g.is) (g.brings e c old e c)));
  brought = λ n. not-false n;
}

kept-part : (more other old now : List Bound) (from to : ℕ) → from ≡ length old → to ≡ length (other ++ old) → now ≡ more ++ (other ++ old)
    → take (length now - to) now ++ drop (length now - from) now ≡ more ++ old
kept-part more other old now from to f t e =
    let m = length-append more (other ++ old) in
    let n = length-append other old in
    let k : length (more ++ (other ++ old)) - length (other ++ old) ≡ length more = omega (arith, m) in
    let j : length (more ++ (other ++ old)) - length old ≡ length (more ++ other) = let u = length-append more other in omega (arith, m, n, u) in
    ap₂ (λ (s : List Bound) a. take (length s - a) s ++ drop (length s - from) s) e t
    ∙ ap₂ (λ a b. take a (more ++ (other ++ old)) ++ drop b (more ++ (other ++ old))) k (ap (λ a. length (more ++ (other ++ old)) - a) f ∙ j)
    ∙ ap₂ (λ a b. a ++ b) (take-append_seam more (other ++ old)) (ap (drop (length (more ++ other))) (sym (append_assoc more other old)) ∙ drop-append_seam (more ++ other) old)

pub local-kept : {Q : Env → Type 0} {names : Env → Env} (one two : Env → Env) (from to : ℕ) (old mid last new : List Bound) → Brought old mid one → Brought mid last two → from ≡ length old → to ≡ length mid
    → new ≡ take (length last - to) last ++ drop (length last - from) last → ((e : Env) → names e ≡ two (plus e (one e))) → Declared false old new Q names
local-kept one two from to old mid last new g k f t e n = record {
  right = λ h. never h;
  brought = λ h. record {
    more = k.more;
    is = e ∙ kept-part k.more g.more old last from to f (t ∙ ap length g.is) (k.is ∙ ap (λ s. k.more ++ s) g.is);
    brings = λ d c. subst (Brings k.more) (sym (n d)) (k.brings (plus d (one d)) (subst (λ (s : List Bound). Covers s (plus d (one d))) (sym g.is) (g.brings d c old d c)));
  };
}

-- Declarations, one after the other.

take-next : {A : Type 0} (xs : List A) (i : ℕ) (x : A) → i < length xs → x ≡ get_or xs i x → take (i + 1) xs ≡ take i xs ++ x ∷ []
take-next xs i x lt e = take_more xs i x lt ∙ ap (λ y. take i xs ++ y ∷ []) (sym e)

abbrev pub run_names : List Dec → Env → Env
run_names ds e = decs_names e (decs_of (map dec_of ds))

abbrev pub Ran : List Dec → ℕ → List Bound → List Bound → Type 0
Ran ds i old now = Brought old now (run_names (take i ds))

pub ran-none : (ds : List Dec) (old : List Bound) → Ran ds 0 old old
ran-none ds old = record { more = []; is = refl; brings = λ e c. nothing-brings }

pub ran-next : {P : Env → Type 0} (ds : List Dec) (i : ℕ) (d : Dec) (b : Bool) (old mid new : List Bound) → i < length ds → d ≡ get_or ds i d → b ≡ false → Ran ds i old mid
    → Declared b mid new P (λ e. dec_names e (dec_of d)) → Ran ds (i + 1) old new
ran-next ds i d b old mid new lt e f g h = by (h.brought f)
  where
    by : Brought mid new (λ e. dec_names e (dec_of d)) → Ran ds (i + 1) old new
    by k = record {
      more = k.more ++ g.more;
      is = k.is ∙ ap (λ s. k.more ++ s) g.is ∙ sym (append_assoc k.more g.more old);
      brings = λ a c.
          subst (λ (l : List Dec). Brings (k.more ++ g.more) (run_names l a)) (sym (take-next ds i d lt e))
          (subst (Brings (k.more ++ g.more)) (sym (names-longer a (take i ds) d))
          (both-bring g.more k.more (run_names (take i ds) a) (dec_names (plus a (run_names (take i ds) a)) (dec_of d)) (g.brings a c)
          (k.brings (plus a (run_names (take i ds) a)) (subst (λ (s : List Bound). Covers s (plus a (run_names (take i ds) a))) (sym g.is) (g.brings a c old a c)))));
    }

-- what is found in the first ones
decs-part : (p : Sought) (e : Env) (ds es : List Dec) → AnyAt p (decs_in e (decs_of (map dec_of ds))) → AnyAt p (decs_in e (decs_of (map dec_of (ds ++ es))))
decs-part p e ds [] h = subst (λ (l : List Dec). AnyAt p (decs_in e (decs_of (map dec_of l)))) (sym (append-nil ds)) h
decs-part p e ds (d ∷ es) h = subst (λ (l : List Dec). AnyAt p (decs_in e (decs_of (map dec_of l)))) (append_assoc ds (d ∷ []) es) (decs-part p e (ds ++ d ∷ []) es (decs-before p e ds d h))

pub ran-found : {names : Env → Env} {n' : Env → Env} (p : Sought) (ds : List Dec) (i : ℕ) (d : Dec) (b : Bool) (old mid new : List Bound) → i < length ds → d ≡ get_or ds i d → b ≡ true → Ran ds i old mid
    → Declared b mid new (λ e. FoundAt p e (dec_phrase d)) names → Declared true old new (λ e. AnyAt p (decs_in e (decs_of (map dec_of ds)))) n'
ran-found p ds i d b old mid new lt e t g h = record {
  right = λ u a c.
      subst (λ (l : List Dec). AnyAt p (decs_in a (decs_of (map dec_of l)))) (ap (λ l. l ++ drop (i + 1) ds) (sym (take-next ds i d lt e)) ∙ take-append-drop (i + 1) ds)
      (decs-part p a (take i ds ++ d ∷ []) (drop (i + 1) ds)
      (decs-last p a (take i ds) d (h.right t (plus a (run_names (take i ds) a)) (subst (λ (s : List Bound). Covers s (plus a (run_names (take i ds) a))) (sym g.is) (g.brings a c old a c)))));
  brought = λ n. not-false n;
}

pub ran-all : {Q : Env → Type 0} (ds : List Dec) (i : ℕ) (old now : List Bound) → length ds ≤ i → Ran ds i old now → Declared false old now Q (run_names ds)
ran-all ds i old now le g = record { right = λ h. never h; brought = λ h. subst (λ (l : List Dec). Brought old now (run_names l)) (take_all i ds le) g }

-- The standard basis: its prelude sees the structure of primitives, which is left behind it.
pub standard-covers : (prelude : bare.Decs) (basis one two new : List Bound) (b : Bound) (from to : ℕ) → Covers basis initial_env → one ≡ b ∷ basis → Covers (b ∷ basis) prelude_env
    → Brought one two (λ e. decs_names e prelude) → from ≡ length basis → to ≡ length one → new ≡ take (length two - to) two ++ drop (length two - from) two → Covers new (standard_env prelude)
standard-covers prelude basis one two new b from to c o p g f t e =
    let k : Covers one prelude_env = subst (λ s. Covers s prelude_env) (sym o) p in
    subst (λ (s : List Bound). Covers s (standard_env prelude))
    (sym (e ∙ kept-part g.more (b ∷ []) basis two from to f (t ∙ ap length o) (g.is ∙ ap (λ s. g.more ++ s) o)))
    (g.brings prelude_env k basis initial_env c)
