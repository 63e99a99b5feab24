-- Functions that are gone into, parameter by parameter.
use Rattle.std.proofs.Common.{◌≡◌, ℕ, suc, ◌+◌, ◌<◌, Bool, true, false, ◌&&◌, List, [], ◌∷◌, ◌++◌, length, drop, Option, Some, None, if◌then◌else◌, slice_index_or, refl, sym, ap, ◌∙◌, subst}
use Rattle.ir_plain.specs.Tree as clean
use Rattle.ir_mono.specs.Mono.{mono}
use Rattle.ir_known.specs.declared.known.Known.TheVariants.{OfType}
use Rattle.plain_tree.specs.declared.tree.Parameter.{Parameter}
use Rattle.plain_tree.specs.TreeOf.{fun_of}
use Rattle.mono_fits.specs.Asked.{given, result_from}
use Rattle.mono_fits.specs.Fits.{is_new}
use Rattle.mono_operations.specs.Reads.{reading, Names, all}
use Rattle.mono_operations.specs.declared.tables.Tables.{Tables}
use Rattle.mono_check.specs.Walk.{holding, IsMore, fits, fun_right, taken, Enters}
use Rattle.mono_check.proofs.Lists.{any-default, there, none-left, one-more}
use Rattle.mono_check.proofs.Names.{more-none, more-one, more-more, more-at}

asked : (n : Bool) (r : Option ℕ) (f : ℕ → Bool) → given r (λ u. n && f u) ≡ given (if n then r else None) f
asked true None f = refl
asked true (Some u) f = refl
asked false None f = refl
asked false (Some u) f = refl

module _ (t : Tables) where
  abbrev body_in : Names → Parameter → clean.Exp (mono t.types) → ℕ → Bool
  body_in s x e w = fits t false (holding ([], s.0 ++ s.1) x.variable (OfType x.ty)) e w

  more-is : (s : Names) (y : Parameter) (f : clean.Fun (mono t.types)) (v : ℕ) → fun_right t s (clean.more y.variable y.ty f) v ≡ given (taken t s y v) (fun_right t (holding s y.variable (OfType y.ty)) f)
  more-is s y f v = asked (is_new (all s) y.variable) (result_from t.types v y.ty) (fun_right t (holding s y.variable (OfType y.ty)) f)

  last-is : (s : Names) (x : Parameter) (e : clean.Exp (mono t.types)) (v : ℕ) → fun_right t s (clean.last x.variable x.ty e) v ≡ given (taken t s x v) (body_in s x e)
  last-is s x e v = asked (is_new (all s) x.variable) (result_from t.types v x.ty) (body_in s x e)

  -- the parameters from n on are left
  pub record Within (old now : Names) (xs : List Parameter) (x : Parameter) (u v n : ℕ) : Type 0 where
    pub grows : IsMore old now
    pub whole : (e : clean.Exp (mono t.types)) → fun_right t old (fun_of (reading t) xs x e) u ≡ fun_right t now (fun_of (reading t) (drop n xs) x e) v

  pub within-first : (s : Names) (xs : List Parameter) (x : Parameter) (u : ℕ) → Within s s xs x u u 0
  within-first s xs x u = record { grows = more-none s; whole = λ e. refl }

  module _ (old now : Names) (xs : List Parameter) (x : Parameter) (u v n : ℕ) (w : Within old now xs x u v n) where
    next-is : (y : Parameter) (found : Option ℕ) → n < length xs → y ≡ slice_index_or xs n y → found ≡ taken t now y v → (e : clean.Exp (mono t.types))
        → fun_right t old (fun_of (reading t) xs x e) u ≡ given found (fun_right t (holding now y.variable (OfType y.ty)) (fun_of (reading t) (drop (suc n) xs) x e))
    next-is y found lt i k e = w.whole e ∙ ap (λ ys. fun_right t now (fun_of (reading t) ys x e) v) (there xs n y lt i) ∙ more-is now y (fun_of (reading t) (drop (suc n) xs) x e) v
        ∙ ap (λ o. given o (fun_right t (holding now y.variable (OfType y.ty)) (fun_of (reading t) (drop (suc n) xs) x e))) (sym k)

    pub next-taken : (new : Names) (y : Parameter) (found : Option ℕ) (r : ℕ) → n < length xs → y ≡ slice_index_or xs n y → found ≡ taken t now y v → found ≡ Some r → new ≡ holding now y.variable (OfType y.ty) → Within old new xs x u r (n + 1)
    next-taken new y found r lt i k s b = subst (Within old new xs x u r) (one-more n) (record {
      grows = more-at old (holding now y.variable (OfType y.ty)) new b (more-more old now (holding now y.variable (OfType y.ty)) w.grows (more-one now y.variable (OfType y.ty)));
      whole = λ e. next-is y found lt i k e ∙ ap (λ o. given o (fun_right t (holding now y.variable (OfType y.ty)) (fun_of (reading t) (drop (suc n) xs) x e))) s
          ∙ ap (λ s. fun_right t s (fun_of (reading t) (drop (suc n) xs) x e) r) (sym b);
    })

    pub not-taken : (new : Names) (y : Parameter) (found : Option ℕ) → n < length xs → y ≡ slice_index_or xs n y → found ≡ taken t now y v → found ≡ None → Enters t old new xs x u None
    not-taken new y found lt i k s = record {
      grows = λ r e. absurd (cc);
      whole = λ e. next-is y found lt i k e ∙ ap (λ o. given o (fun_right t (holding now y.variable (OfType y.ty)) (fun_of (reading t) (drop (suc n) xs) x e))) s;
    }

    -- at the element that a loop reads
    pub next-read : (new : Names) (d : Parameter) (found : Option ℕ) (r : ℕ) → n < length xs → found ≡ taken t now (slice_index_or xs n d) v → found ≡ Some r
        → new ≡ holding now (slice_index_or xs n d).variable (OfType (slice_index_or xs n d).ty) → Within old new xs x u r (n + 1)
    next-read new d found r lt k s b = next-taken new (slice_index_or xs n d) found r lt (any-default xs n d (slice_index_or xs n d) lt) k s b

    pub not-read : (new : Names) (d : Parameter) (found : Option ℕ) → n < length xs → found ≡ taken t now (slice_index_or xs n d) v → found ≡ None → Enters t old new xs x u None
    not-read new d found lt k s = not-taken new (slice_index_or xs n d) found lt (any-default xs n d (slice_index_or xs n d) lt) k s

    pub last-taken : (inner new : Names) (found : Option ℕ) → n ≡ length xs → inner ≡ ([], now.0 ++ now.1) → found ≡ taken t inner x v → ((r : ℕ) → found ≡ Some r → new ≡ holding inner x.variable (OfType x.ty)) → Enters t old new xs x u found
    last-taken inner new found l i k b = record {
      grows = λ r e. more-at old (holding ([], now.0 ++ now.1) x.variable (OfType x.ty)) new (b r e ∙ ap (λ s. holding s x.variable (OfType x.ty)) i) (more-more old now (holding ([], now.0 ++ now.1) x.variable (OfType x.ty)) w.grows (inside now));
      whole = λ e. w.whole e ∙ ap (λ ys. fun_right t now (fun_of (reading t) ys x e) v) (none-left xs n l) ∙ last-is now x e v
          ∙ ap (λ s. given (taken t s x v) (body_in now x e)) (sym i) ∙ ap (λ o. given o (body_in now x e)) (sym k) ∙ at found b e;
    }
      where
        inside : (s : Names) → IsMore s (holding ([], s.0 ++ s.1) x.variable (OfType x.ty))
        inside s = record { added = (x.variable, OfType x.ty) ∷ []; within = refl }

        at : (found : Option ℕ) → ((r : ℕ) → found ≡ Some r → new ≡ holding inner x.variable (OfType x.ty)) → (e : clean.Exp (mono t.types)) → given found (body_in now x e) ≡ given found (fits t false new e)
        at None b e = refl
        at (Some r) b e = ap (λ s. fits t false s e r) (sym (b r refl ∙ ap (λ s. holding s x.variable (OfType x.ty)) i))
