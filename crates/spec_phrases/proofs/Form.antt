-- A form that is made of one phrase: what it stands for is told by what the phrase does.
use Rattle.sml_tree.specs.ReadTree as read_tree
use Rattle.sml_tree.specs.Bare.{bare_type_bind}
use Rattle.sml_tree.specs.TreeOf.{type_bind_of}
use Rattle.sml_tree.specs.declared.tree.TypeBind.{TypeBind}
use Rattle.module_tree.specs.ModuleBare.{abbreviated}
use Rattle.module_code.specs.TreeOf.{abbreviation_of}
use Rattle.std.proofs.Common.{◌≡◌, ℕ, List, [], ◌∷◌, map, Bool, true, false, Result, refl, ap, sym, ◌∙◌, subst, ◌≤◌, arith}
use Rattle.mlc_names.specs.declared.token.Token.{Token}
use Rattle.sml_tree.specs.Terminal.{Terminal}
use Rattle.sml_grammar.specs.Answer.{Read, Answer, ok, read, then_read}
use Rattle.phrase_base.specs.declared.source.Source.{Source}
use Rattle.phrase_base.specs.Gives.{Gave, Gives}
use Rattle.phrase_base.specs.declared.stop.Stop.{Stop}
use Rattle.module_grammar.specs.Signatures.{binds_type, type_form}
use Rattle.spec_phrases.specs.FormsRead.{read_abbreviation_spec, read_type_spec}
use Rattle.phrase_base.specs.TypesRead.{IsOne}

pub form-one : {X A V Y B W : Type 0} (of : X → V) (view : A → V) (dep : A → ℕ) (of2 : Y → W) (view2 : B → W) (dep2 : B → ℕ) (s : Source) (n : ℕ) (i : List Terminal) (x : X) (d : ℕ) (o : List Token) (a : Answer A) (y : Y) (g : A → B) (f : V → W) →
    of2 y ≡ f (of x) → ((t : A) → view2 (g t) ≡ f (view t)) → ((t : A) → dep2 (g t) ≡ dep t) → Gave (λ (z : X) got. IsOne of view dep s n i z d o got) x a →
    Gave (λ (z : Y) got. IsOne of2 view2 dep2 s n i z d o got) y (then_read a (λ t m. read (g t) m))
form-one of view dep of2 view2 dep2 s n i x d o a y g f p q r h =
    record {
      got = record { tree = g h.got.tree; rest = h.got.rest };
      is = ap (λ (z : Answer _). then_read z (λ t m. read (g t) m)) h.is;
      same = record {
        rest = h.same.rest;
        same = p ∙ ap f h.same.same ∙ sym (q h.got.tree);
        depth = h.same.depth ∙ sym (r h.got.tree);
        fits = subst (λ (k : ℕ). k ≤ n) (sym (r h.got.tree)) h.same.fits;
        shorter = h.same.shorter;
      };
    }

-- what is at most 0 deep
pub larger : {X A V : Type 0} {of : X → V} {view : A → V} {dep : A → ℕ} {s : Source} {n : ℕ} {i : List Terminal} {x : X} {d : ℕ} {o : List Token} {got : Read A} → IsOne of view dep s 0 i x d o got → IsOne of view dep s n i x d o got
larger h = let f = h.fits in record { rest = h.rest; same = h.same; depth = h.depth; fits = omega arith; shorter = h.shorter }

map-map : {A B C : Type 0} (f : A → B) (g : B → C) (xs : List A) → map g (map f xs) ≡ map (λ x. g (f x)) xs
map-map f g [] = refl
map-map {C} f g (x ∷ xs) = ap (λ (z : List C). g (f x) ∷ z) (map-map f g xs)

-- abbreviations, one after the other
pub abbreviations-are : (f : ℕ) (xs : List TypeBind) (bs : List read_tree.TypeBind) → map type_bind_of xs ≡ map (bare_type_bind f) bs → map (λ b. abbreviation_of (type_bind_of b)) xs ≡ map (abbreviated f) bs
abbreviations-are f xs bs h = sym (map-map type_bind_of abbreviation_of xs) ∙ ap (map abbreviation_of) h ∙ map-map (bare_type_bind f) abbreviation_of bs

-- the same answer, told by another term
pub gives-by : {X A : Type 0} (Is : X → Read A → Type 0) (r : Result X Stop) (a b : Answer A) → a ≡ b → Gives Is r b → Gives Is r a
gives-by Is r a b p h = subst (λ (z : Answer _). Gives Is r z) (sym p) h

-- which of the two forms `type` begins
module _ (n p : ℕ) (i : List Terminal) (b : Bool) (g : Read Bool) (h : binds_type i ≡ ok g) (e : b ≡ g.tree) where
  pub binding-form : b ≡ true → type_form n p i ≡ read_abbreviation_spec n p i
  binding-form t = let u : g.tree ≡ true = sym e ∙ t in rw (h, u) refl

  pub naming-form : b ≡ false → type_form n p i ≡ read_type_spec p i
  naming-form t = let u : g.tree ≡ false = sym e ∙ t in rw (h, u) refl
