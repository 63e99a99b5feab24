-- Tables whose parameters have no class, and whose constructors mean what they did.
use Rattle.std.proofs.Common.{◌≡◌, ◌<◌, ◌≤◌, ◌+◌, ℕ, zero, suc, List, [], ◌∷◌, ◌++◌, map, length, take, slice_index_or, Vec, Global, refl, sym, ap, ap₂, ◌∙◌}
use Rattle.std.specs.Option.{option_map}
use Rattle.std.proofs.lemmas.List.{map-append, get_or_past}
use Rattle.ty_core.specs.Types.{Typ, var}
use Rattle.ty_core.specs.declared.scheme.Quantified.{Quantified}
use Rattle.ty_table.specs.TypeAt.{type_at}
use Rattle.ir_tables.specs.Rows.{constructor_at, constructors_at}
use Rattle.ir_tables.specs.Tables.{parameters_at}
use Rattle.ir_tables.specs.declared.constructors.Constructor.{Constructor}
use Rattle.match_compile.specs.Compile as clean
use Rattle.general_bindings.proofs.of_pattern_tests.Chains.{next-take}
use Rattle.general_bindings.proofs.of_exp_blocks.Binding.{take-next}
use Rattle.match_pass.proofs.Lists.{take-past}

unclassed-more : (qs : List Quantified) (q : Quantified) → clean.unclassed (qs ++ q ∷ []) ≡ clean.unclassed qs ++ record { variable = q.variable; mark = clean.opened q.mark } ∷ []
unclassed-more [] q = refl
unclassed-more (p ∷ qs) q = ap (λ l. record { variable = p.variable; mark = clean.opened p.mark } ∷ l) (unclassed-more qs q)

pub unclassed-step : (qs made new : List Quantified) (i : ℕ) (d n : Quantified) → i < length qs → made ≡ clean.unclassed (take i qs) → n ≡ record { variable = (slice_index_or qs i d).variable; mark = clean.opened (slice_index_or qs i d).mark }
    → new ≡ made ++ n ∷ [] → new ≡ clean.unclassed (take (i + 1) qs)
unclassed-step qs made new i d n lt e same more =
    more ∙ ap₂ (λ l x. l ++ x ∷ []) e same ∙ sym (ap clean.unclassed (take-next qs i d lt) ∙ unclassed-more (take i qs) (slice_index_or qs i d))

pub unclassed-end : (qs made : List Quantified) (i : ℕ) → length qs ≤ i → made ≡ clean.unclassed (take i qs) → made ≡ clean.unclassed qs
unclassed-end qs made i le e = e ∙ ap clean.unclassed (take-past qs i le)

-- lists of them
pub lists-step : (ls made later : List (Vec Quantified Global)) (i : ℕ) (l n : Vec Quantified Global) (qs : List Quantified) → i < length ls → l ≡ slice_index_or ls i l → map (λ p. p.items) made ≡ map (λ p. clean.unclassed p.items) (take i ls)
    → n.items ≡ clean.unclassed qs → qs ≡ l.items → later ≡ made ++ n ∷ [] → map (λ p. p.items) later ≡ map (λ p. clean.unclassed p.items) (take (i + 1) ls)
lists-step ls made later i l n qs lt is e same read more =
    ap (map (λ p. p.items)) more ∙ map-append (λ p. p.items) made (n ∷ []) ∙ ap₂ (λ m x. m ++ x ∷ []) e (same ∙ ap clean.unclassed read)
    ∙ sym (ap (map (λ p. clean.unclassed p.items)) (next-take ls i l lt is) ∙ map-append (λ p. clean.unclassed p.items) (take i ls) (l ∷ []))

pub lists-end : (ls made : List (Vec Quantified Global)) (i : ℕ) → length ls ≤ i → map (λ p. p.items) made ≡ map (λ p. clean.unclassed p.items) (take i ls) → map (λ p. p.items) made ≡ map (λ p. clean.unclassed p.items) ls
lists-end ls made i le e = e ∙ ap (map (λ p. clean.unclassed p.items)) (take-past ls i le)

-- the list of a number
pub unclassed-at : (ps : List (List Quantified)) (k : ℕ) → clean.unclassed (parameters_at ps k) ≡ parameters_at (map clean.unclassed ps) k
unclassed-at [] k = refl
unclassed-at (p ∷ ps) zero = refl
unclassed-at (p ∷ ps) (suc k) = unclassed-at ps k

pub unknown-type : (ts : List Typ) (k : ℕ) → length ts ≤ k → type_at ts k ≡ var 0
unknown-type ts k le = get_or_past ts k (var 0) le

-- constructors
pub rows-step : (old new : List Typ) (rows made later : List Constructor) (i : ℕ) (d n : Constructor) → i < length rows → constructors_at new made ≡ constructors_at old (take i rows) → n.datatype ≡ (slice_index_or rows i d).datatype
    → n.number ≡ (slice_index_or rows i d).number → option_map (type_at new) n.argument ≡ option_map (type_at old) (slice_index_or rows i d).argument → later ≡ made ++ n ∷ [] → constructors_at new later ≡ constructors_at old (take (i + 1) rows)
rows-step old new rows made later i d n lt e datatype number argument more =
    ap (constructors_at new) more ∙ map-append (constructor_at new) made (n ∷ [])
    ∙ ap₂ (λ l x. l ++ x ∷ []) e (ap₂ (λ d k. record { datatype = d; number = k; argument = option_map (type_at new) n.argument }) datatype number
    ∙ ap (λ a. record { datatype = (slice_index_or rows i d).datatype; number = (slice_index_or rows i d).number; argument = a }) argument)
    ∙ sym (ap (constructors_at old) (take-next rows i d lt) ∙ map-append (constructor_at old) (take i rows) (slice_index_or rows i d ∷ []))

pub rows-end : (old new : List Typ) (rows made : List Constructor) (i : ℕ) → length rows ≤ i → constructors_at new made ≡ constructors_at old (take i rows) → constructors_at new made ≡ constructors_at old rows
rows-end old new rows made i le e = e ∙ ap (constructors_at old) (take-past rows i le)
