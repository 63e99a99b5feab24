-- One change behind another, and the faults of calls that are passed on.
use Rattle.std.proofs.Common.{◌≡◌, ◌<◌, ◌≤◌, ℕ, List, [], ◌∷◌, ◌++◌, Result, Ok, Err, IfErr, refl, sym, ap, subst, ◌∙◌, arith}
use Rattle.std.specs.Result.{IsErrAnd}
use Rattle.mlc_runs.specs.Passes.{greatest_expansion}
use Rattle.mlc_runs.specs.declared.pass.PassFault.{PassFault}
use Rattle.mlc_runs.specs.declared.pass.PassFault.TheVariants.{Expansion}
use Rattle.ty_core.specs.Types.{Typ}
use Rattle.ir_tables.specs.Tables.{strings_of}
use Rattle.ir_tables.specs.declared.tables.Tables.{Tables}
use Rattle.monomorphise.specs.Monomorphise.{Groups}
use Rattle.mono_close.specs.Closing.{standing}
use Rattle.mono_words.specs.Seen.{Seen, with_sign}
use Rattle.mono_parts.specs.of_mono_state.Seen.{Held, held_of, Later, groups_in, seen, sign_of}
use Rattle.mono_parts.specs.of_mono_state.Going.{Goes}
use Rattle.mono_parts.specs.of_mono_state.declared.copier.Copier.{Copier}
use Rattle.mono_parts.specs.of_mono_state.declared.word.Word.{Word}
use Rattle.mono_parts.proofs.of_mono_state.Growing.{sooner}
use Rattle.mono_parts.proofs.of_mono_state.Going.{goes-then, goes-nowhere}
use Rattle.mono_copy.specs.Puts.{Change, IsReady, Puts, Passes}
use Rattle.mono_copy.specs.Changes.{each_put}

-- faults

pub passed : {T : Type 0} (r : Result T PassFault) (e : PassFault) → IsErrAnd r (λ x. x ≡ e) → (P Q : Type 0) → (P → Q) → (e ≡ Expansion → P) → IfErr r (λ f. f ≡ Expansion → Q)
passed (Ok x) e g P Q m h = absurd g
passed (Err x) e g P Q m h = λ b. m (h (sym g ∙ b))

pub kept : {T : Type 0} (r : Result T PassFault) (P Q : Type 0) → (P → Q) → IfErr r (λ f. f ≡ Expansion → P) → IfErr r (λ f. f ≡ Expansion → Q)
kept (Ok x) P Q m h = tt
kept (Err e) P Q m h = λ b. m (h b)

-- the same change is larger nowhere
abbrev pub Grows : Change → Type 0
Grows F = (H : Held) (g : Groups) (s : ℕ → Typ) (n : Seen) → n.nodes ≤ (F H g s n).nodes

abbrev pub Same : Change → Change → Type 0
Same F G = (H : Held) (g : Groups) (s : ℕ → Typ) (n : Seen) → F H g s n ≡ G H g s n

abbrev pub then_ : Change → Change → Change
then_ F G H g s n = G H g s (F H g s n)

pub grows-then : (F G : Change) → Grows F → Grows G → Grows (then_ F G)
grows-then F G f h H g s n = let a = f H g s n in let b = h H g s (F H g s n) in omega (arith, a, b)

abbrev pub word_put : Tables → Word → Change
word_put t w H g s n = with_sign (sign_of (strings_of t) H w) n

module _ {A : Type 0} (I : A → Change) where
  pub each-part : ((x : A) → Grows (I x)) → (front xs : List A) (H : Held) (g : Groups) (s : ℕ → Typ) (n : Seen) → (each_put I xs H g s n).nodes ≤ (each_put I (front ++ xs) H g s n).nodes
  each-part h [] xs H g s n = omega arith
  each-part h (y ∷ front) xs H g s n =
      let u = each-part h front xs H g s n in
      let v = h y H g s (each_put I (front ++ xs) H g s n) in
      omega (arith, u, v)

  pub each-grows : ((x : A) → Grows (I x)) → (xs : List A) → Grows (each_put I xs)
  each-grows h [] H g s n = omega arith
  each-grows h (x ∷ xs) H g s n =
      let u = each-grows h xs H g s n in
      let v = h x H g s (each_put I xs H g s n) in
      omega (arith, u, v)

module _ {t : Tables} where
  pub ready-then : {F : Change} {a b : Copier} → IsReady t a → Puts t F a b → IsReady t b
  ready-then r p = record { open_ = p.goes.open_; right = p.goes.right r.right }

  pub ready-goes : {a b : Copier} → IsReady t a → Goes t.types a b → IsReady t b
  ready-goes r g = record { open_ = g.open_; right = g.right r.right }

  pub puts-then : {F G : Change} {a b c : Copier} → Puts t F a b → Puts t G b c → Puts t (then_ F G) a c
  puts-then {F = F} {G = G} {a = a} {b = b} {c = c} p q = record {
    goes = goes-then t.types a b c p.goes q.goes;
    sees = λ H l. q.sees H l ∙ (λ i. G H (groups_in H (p.goes.own i)) (standing H.types (p.goes.slots i)) (p.sees H (sooner q.goes.longer l) i));
  }

  pub passes-then : {F G : Change} {a b : Copier} → Puts t F a b → Passes t G b → Passes t (then_ F G) a
  passes-then {F = F} {G = G} p q =
      let H = q.tables in
      record {
        tables = H;
        later = sooner p.goes.longer q.later;
        past = subst (λ n. greatest_expansion < n) (λ i. (G H (groups_in H (p.goes.own i)) (standing H.types (p.goes.slots i)) (p.sees H q.later i)).nodes) q.past;
      }

  -- at the same tables
  pub behind-later : {F G : Change} {a b : Copier} → Puts t F a b → (q : Passes t G b) → Later (held_of a) q.tables
  behind-later p q = sooner p.goes.longer q.later

  pub behind-past : {F G : Change} {a b : Copier} → Puts t F a b → (q : Passes t G b)
      → greatest_expansion < (then_ F G q.tables (groups_in q.tables a.own) (standing q.tables.types a.slots) (seen (strings_of t) q.tables a)).nodes
  behind-past {F = F} {G = G} p q =
      let H = q.tables in
      subst (λ n. greatest_expansion < n) (λ i. (G H (groups_in H (p.goes.own i)) (standing H.types (p.goes.slots i)) (p.sees H q.later i)).nodes) q.past

  pub puts-as : {F : Change} {a b : Copier} (G : Change) → Same F G → Puts t F a b → Puts t G a b
  puts-as {a = a} G e p = record { goes = p.goes; sees = λ H l. p.sees H l ∙ e H (groups_in H a.own) (standing H.types a.slots) (seen (strings_of t) H a) }

  pub passes-more : {F : Change} {a : Copier} (G : Change) → ((H : Held) (g : Groups) (s : ℕ → Typ) (n : Seen) → (F H g s n).nodes ≤ (G H g s n).nodes) → Passes t F a → Passes t G a
  passes-more {a = a} G e p =
      let H = p.tables in
      let u = e H (groups_in H a.own) (standing H.types a.slots) (seen (strings_of t) H a) in
      let v = p.past in
      record { tables = H; later = p.later; past = omega (arith, u, v) }

  pub passes-as : {F : Change} {a : Copier} (G : Change) → Same F G → Passes t F a → Passes t G a
  passes-as G e p = passes-more G (λ H g s n. let u = ap (λ (m : Seen). m.nodes) (e H g s n) in omega (arith, u)) p

  -- what comes behind only makes it more
  pub passes-on : {F : Change} {a : Copier} (after G : Change) → Grows after → Same (then_ F after) G → Passes t F a → Passes t G a
  passes-on {F = F} after G h e p =
      passes-more G (λ H g s n. let u = ap (λ (m : Seen). m.nodes) (e H g s n) in let v = h H g s (F H g s n) in omega (arith, u, v)) p

  -- nothing is put
  pub puts-nothing : {a : Copier} → IsReady t a → Puts t (λ H g s n. n) a a
  puts-nothing {a = a} r = record { goes = goes-nowhere t.types a r.open_; sees = λ H l. refl }

  -- a word
  pub puts-word : {a b : Copier} (w : Word) → ((sources : List Typ) → Goes sources a b) → ((ss : List (List ℕ)) (H : Held) → seen ss H b ≡ with_sign (sign_of ss H w) (seen ss H a)) → Puts t (word_put t w) a b
  puts-word w g p = record { goes = g t.types; sees = λ H l. p (strings_of t) H }

  -- lists, from the last to the first

  module _ {A : Type 0} (I : A → Change) where
    pub each-none : {a : Copier} (xs : List A) → xs ≡ [] → IsReady t a → Puts t (each_put I xs) a a
    each-none {a = a} xs e r = subst (λ l. Puts t (each_put I l) a a) (sym e) (puts-nothing r)

    pub each-more : {a b c : Copier} (all xs : List A) (x : A) → all ≡ x ∷ xs → Puts t (each_put I xs) a b → Puts t (I x) b c → Puts t (each_put I all) a c
    each-more {a = a} {c = c} all xs x e p q = subst (λ l. Puts t (each_put I l) a c) (sym e) (puts-then p q)

    pub each-passes : {a b : Copier} (all front xs : List A) (x : A) → all ≡ front ++ x ∷ xs → ((y : A) → Grows (I y)) → Puts t (each_put I xs) a b → Passes t (I x) b → Passes t (each_put I all) a
    each-passes {a = a} all front xs x e h p q =
        subst (λ l. Passes t (each_put I l) a) (sym e) (passes-more (each_put I (front ++ x ∷ xs)) (each-part I h front (x ∷ xs)) (passes-then p q))
