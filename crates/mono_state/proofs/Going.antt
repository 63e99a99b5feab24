-- A walk goes on where it stood.
use Rattle.std.proofs.Common.{◌≡◌, ◌≤◌, ◌+◌, ℕ, List, [], ◌∷◌, ◌++◌, length, map, reverse, Result, Ok, Err, nat_eq, refl, sym, ap, subst, ◌∙◌}
use Rattle.std.specs.Prelude.{IfOk}
use Rattle.mlc_runs.specs.Passes.{greatest_expansion}
use Rattle.std.proofs.lemmas.List.{reverse-append}
use Rattle.indexmap.specs.IndexMap.{get}
use Rattle.ty_core.specs.Types.{Typ}
use Rattle.ty_table.specs.TypeAt.{type_at}
use Rattle.mono_close.specs.Closing.{standing, AreHeld, AreRight}
use Rattle.mono_close.proofs.Tables.{held-longer, length-longer, right-longer, right-again}
use Rattle.mono_scopes.specs.Scopes.{Scopes}
use Rattle.needed_scopes.specs.Reads.{scopes_of, AreKept}
use Rattle.mono_words.specs.Seen.{with_sign, with_compared, made}
use Rattle.mono_state.specs.Seen.{Held, held_of, Longer, scope_at, sign_of, seen}
use Rattle.needed_scopes.specs.Scopes.{OpenScope}
use Rattle.needed_scopes.specs.declared.scopes.Scopes as code
use Rattle.mono_state.specs.Going.{ScopesHeld, OwnHeld, IsOpen, IsRight, Goes}
use Rattle.mono_state.specs.declared.copier.Copier.{Copier}
use Rattle.mono_state.specs.declared.word.Word.{Word}
use Rattle.mono_state.proofs.Growing.{got-longer, same-longer, on-longer, still-scopes, still-own}

pub open-on : (old new : Copier) → IsOpen old → Longer (held_of old) (held_of new) → new.scopes ≡ old.scopes → new.slots ≡ old.slots → new.own ≡ old.own
    → new.nodes ≤ greatest_expansion → IsOpen new
open-on old new o g s t u f = record {
  scopes = subst AreKept (sym s) o.scopes;
  within = subst (λ z. ScopesHeld (held_of new) (scopes_of z)) (sym s) (still-scopes g (scopes_of old.scopes) o.within);
  slots = subst (AreHeld (length new.closed)) (sym t) (held-longer (length old.closed) (length new.closed) old.slots (length-longer old.closed new.closed g.types) o.slots);
  own = subst (OwnHeld (held_of new)) (sym u) (still-own g old.own o.own);
  nothing = got-longer old.lists new.lists 0 [] g.lists o.nothing;
  few = f;
}

right-on : (sources : List Typ) (old new : Copier) → IsOpen old → Longer (held_of old) (held_of new) → new.slots ≡ old.slots
    → AreRight sources (standing old.closed old.slots) (get nat_eq new.known) new.closed → IsRight sources new
right-on sources old new o g t r =
    subst (λ s. AreRight sources (standing new.closed s) (get nat_eq new.known) new.closed) (sym t)
    (right-again sources old.closed new.closed old.slots (get nat_eq new.known) g.types o.slots r)

-- with tables that have grown, and the same types closed
pub goes-on : (sources : List Typ) (old new : Copier) → IsOpen old → Longer (held_of old) (held_of new) → new.scopes ≡ old.scopes → new.slots ≡ old.slots → new.own ≡ old.own
    → new.known ≡ old.known → new.nodes ≤ greatest_expansion → Goes sources old new
goes-on sources old new o g s t u k f = record {
  open_ = open-on old new o g s t u f;
  right = λ r. right-on sources old new o g t
      (subst (λ m. AreRight sources (standing old.closed old.slots) (get nat_eq m) new.closed) (sym k)
      (right-longer sources old.closed new.closed (standing old.closed old.slots) (get nat_eq old.known) g.types r));
  slots = t;
  own = u;
  longer = g;
}

-- a type was closed
pub goes-closed : (sources : List Typ) (old new : Copier) → IsOpen old → Longer (held_of old) (held_of new) → new.scopes ≡ old.scopes → new.slots ≡ old.slots → new.own ≡ old.own
    → AreRight sources (standing old.closed old.slots) (get nat_eq new.known) new.closed → new.nodes ≤ greatest_expansion → Goes sources old new
goes-closed sources old new o g s t u r f = record {
  open_ = open-on old new o g s t u f;
  right = λ old-right. right-on sources old new o g t r;
  slots = t;
  own = u;
  longer = g;
}

pub goes-then : (sources : List Typ) (a b c : Copier) → Goes sources a b → Goes sources b c → Goes sources a c
goes-then sources a b c f g = record {
  open_ = g.open_;
  right = λ r. g.right (f.right r);
  slots = g.slots ∙ f.slots;
  own = g.own ∙ f.own;
  longer = on-longer f.longer g.longer;
}

pub goes-nowhere : (sources : List Typ) (old : Copier) → IsOpen old → Goes sources old old
goes-nowhere sources old o = record { open_ = o; right = λ r. r; slots = refl; own = refl; longer = same-longer (held_of old) }

-- other scopes, and the same tables
pub goes-scopes : (sources : List Typ) (old : Copier) (s : code.Scopes) (l : List OpenScope) → IsOpen old → AreKept s → scopes_of s ≡ l → ScopesHeld (held_of old) l
    → Goes sources old (record old { scopes = s })
goes-scopes sources old s l o k e h = record {
  open_ = record { scopes = k; within = subst (ScopesHeld (held_of old)) (sym e) h; slots = o.slots; own = o.own; nothing = o.nothing; few = o.few };
  right = λ r. r;
  slots = refl;
  own = refl;
  longer = same-longer (held_of old);
}

-- one fact after an Ok, from two
pub if-both : {T E : Type 0} {P Q R : T → Type 0} (r : Result T E) → ((x : T) → P x → Q x → R x) → IfOk r P → IfOk r Q → IfOk r R
if-both (Ok x) f p q = f x p q
if-both (Err y) f p q = tt

-- what is seen

turned : {A : Type 0} (xs : List A) (x : A) → reverse (xs ++ x ∷ []) ≡ x ∷ reverse xs
turned xs x = reverse-append xs (x ∷ [])

pub same-seen : (ss : List (List ℕ)) (H : Held) (old new : Copier) → new.words.items ≡ old.words.items → new.scopes ≡ old.scopes → new.compared.items ≡ old.compared.items → new.nodes ≡ old.nodes
    → seen ss H new ≡ seen ss H old
same-seen ss H old new p q r t = λ i. record {
  signs = map (sign_of ss H) (reverse (p i));
  scopes = map (scope_at H) (scopes_of (q i));
  compared = map (type_at H.types) (reverse (r i));
  nodes = t i;
}

pub put-seen : (ss : List (List ℕ)) (H : Held) (old new : Copier) (word : Word) → new.words.items ≡ old.words.items ++ word ∷ [] → new.scopes ≡ old.scopes
    → new.compared.items ≡ old.compared.items → new.nodes ≡ old.nodes → seen ss H new ≡ with_sign (sign_of ss H word) (seen ss H old)
put-seen ss H old new word p q r t =
    let e : map (sign_of ss H) (reverse new.words.items) ≡ sign_of ss H word ∷ map (sign_of ss H) (reverse old.words.items) =
    ap (λ l. map (sign_of ss H) (reverse l)) p ∙ ap (map (sign_of ss H)) (turned old.words.items word) in
    λ i. record {
      signs = e i;
      scopes = map (scope_at H) (scopes_of (q i));
      compared = map (type_at H.types) (reverse (r i));
      nodes = t i;
    }

pub compared-seen : (ss : List (List ℕ)) (H : Held) (old new : Copier) (n : ℕ) → new.words.items ≡ old.words.items → new.scopes ≡ old.scopes
    → new.compared.items ≡ old.compared.items ++ n ∷ [] → new.nodes ≡ old.nodes → seen ss H new ≡ with_compared (type_at H.types n ∷ []) (seen ss H old)
compared-seen ss H old new n p q r t =
    let e : map (type_at H.types) (reverse new.compared.items) ≡ type_at H.types n ∷ map (type_at H.types) (reverse old.compared.items) =
    ap (λ l. map (type_at H.types) (reverse l)) r ∙ ap (map (type_at H.types)) (turned old.compared.items n) in
    λ i. record {
      signs = map (sign_of ss H) (reverse (p i));
      scopes = map (scope_at H) (scopes_of (q i));
      compared = e i;
      nodes = t i;
    }

pub counted-seen : (ss : List (List ℕ)) (H : Held) (old new : Copier) (n : ℕ) → new.words.items ≡ old.words.items → new.scopes ≡ old.scopes
    → new.compared.items ≡ old.compared.items → new.nodes ≡ old.nodes + n → seen ss H new ≡ made (λ l. l) [] [] n (seen ss H old)
counted-seen ss H old new n p q r t = λ i. record {
  signs = map (sign_of ss H) (reverse (p i));
  scopes = map (scope_at H) (scopes_of (q i));
  compared = map (type_at H.types) (reverse (r i));
  nodes = t i;
}

pub scopes-seen : (ss : List (List ℕ)) (H : Held) (old new : Copier) (l : Scopes) → new.words.items ≡ old.words.items → new.compared.items ≡ old.compared.items → new.nodes ≡ old.nodes
    → map (scope_at H) (scopes_of new.scopes) ≡ l → seen ss H new ≡ record { signs = (seen ss H old).signs; scopes = l; compared = (seen ss H old).compared; nodes = (seen ss H old).nodes }
scopes-seen ss H old new l p q r t = λ i. record {
  signs = map (sign_of ss H) (reverse (p i));
  scopes = t i;
  compared = map (type_at H.types) (reverse (q i));
  nodes = r i;
}
