-- Each atom of the compiled program is bound in its own function.
use Rattle.std.proofs.Common.{◌≡◌, if◌then◌else◌, ℕ, suc, Bool, false, List, [], ◌∷◌, ◌++◌, refl, true}
use Rattle.std.specs.Prelude.{⊤}
use Rattle.std.proofs.lemmas.Bool.{eq-eqb}
use Rattle.mlc_base.specs.declared.place.Place.{Place}
use Rattle.mlc_prims.specs.declared.basis.BasisPrimitive.{BasisPrimitive}
use Rattle.ty_core.specs.Types.{Typ}
use Rattle.ty_core.specs.declared.scheme.Quantified.{Quantified}
use Rattle.ir_poly.specs.of_ir_values.Primitives.{match_name, bind_name}
use Rattle.ir_poly.specs.of_ir_plain.Tree as te
use Rattle.ir_poly.specs.of_ir_plain.Scoped.{IsAmong, among_here, among_there, group_onto, AtomsScoped, no_atoms_scoped, an_atom_scoped, RowScoped, no_row_scoped, a_row_scoped, literal_scoped, con_scoped, con_of_scoped, exn_scoped, exn_of_scoped, record_scoped, ReachesName, ret_scoped, let_scoped, exception_scoped, name_scoped, rec_scoped, switch_scoped, first_scoped, counted_scoped, no_arms_scoped, arm_scoped, OpScoped, use_scoped, const_scoped, con_alone_scoped, construct_scoped, ref_alone_scoped, refer_scoped, content_scoped, pack_scoped, make_record_scoped, select_scoped, prim_alone_scoped, prim_scoped, app_scoped, fn_scoped, block_scoped, handle_scoped, raise_scoped, raise_initial_scoped, FunScoped, last_scoped, more_scoped, FunsScoped, no_funs_scoped, fun_scoped, IsLocal}
use Rattle.ir_poly.specs.Prog.{Exc, fixed, held, Pat, any_pat, variable_pat, constant_pat, con_pat, con_of_pat, ref_of_pat, exn_pat, exn_of_pat, fields_pat, as_pat, PatFields, no_pats, a_pat, Exp, constant_exp, variable_exp, own_exp, con_exp, ref_exp, exn_exp, prim_exp, fields_exp, let_exp, app_exp, case_exp, chain_exp, handle_exp, raise_exp, fn_exp, counted_exp, Fields, no_fields, a_field, Chain, only, link, Rules, no_rules, a_rule, Fun, last, by_rules, more, Decs, no_decs, val_dec, exception_dec, counted_dec, Binds, no_binds, a_bind, Funs, no_funs, a_fun, type_of}
use Rattle.ir_poly.specs.Tests.{Use, poly, Tests}
use Rattle.ir_poly.specs.Types.{unit_type}
use Rattle.match_compile.proofs.Sorted.{sorted-scoped}
use Rattle.match_compile.specs.Compile.{unclassed, Names, no_names, named, funs_named, past_group, bool_type, exception_type, atom, put, excepted, Otherwise, again, initial, otherwise, Spots, no_spots, spot, spots, field_spots, spots_named, past_pat, tests, field_tests, Shape, plain, alone, recorded, shape, record_type, spots_row, together, split, past_shape, shaped, grouped, Built, a_con, a_ref, an_exn, Way, by_call, by_building, by_performing, way, weighed, past_built, beginning, building, along, is_direct, value_at, value_of_rule, past_tuple, past_fields, past_chain, past_rules, past_fun, past_decs, past_binds, past_funs, val_named, decs_named, field_row, field_atoms, tuple_atoms, making, making_rule, making_tuple, making_all, links, rules, function, functions, bindings, decs, compile}

abbrev Among : Use → List ℕ → Type 0
Among = IsAmong poly

abbrev Local : List ℕ → Tests → Type 0
Local = IsLocal poly

abbrev OpLocal : List ℕ → te.Op poly → Type 0
OpLocal = OpScoped poly false

-- more variables
abbrev Grows : List ℕ → List ℕ → Type 0
Grows ls ls' = (u : Use) → Among u ls → Among u ls'

stays : (ls : List ℕ) → Grows ls ls
stays ls u h = h

further : {ls ls' ls'' : List ℕ} → Grows ls ls' → Grows ls' ls'' → Grows ls ls''
further g h u a = h u (g u a)

one : (x : ℕ) (ls : List ℕ) → Grows ls (x ∷ ls)
one x ls u h = among_there h

here : (n : ℕ) (ls : List ℕ) → Among (atom n) (n ∷ ls)
here n ls = among_here (eq-eqb n n refl)

reaches : (N : Names) (x : Exc) (ls : List ℕ) → ReachesName poly false (excepted N x) ls
reaches N (fixed i) ls = tt
reaches N (held x) ls = tt

-- what follows is local with the new variable n and whatever came before it
abbrev Follows : List ℕ → (n : ℕ) → Tests → Type 0
Follows ls n rest = (ls' : List ℕ) → Grows ls ls' → Among (atom n) ls' → Local ls' rest

put-local : (D : List Quantified) (n : ℕ) (t : Typ) {o : te.Op poly} {ls : List ℕ} {rest : Tests} → OpLocal ls o → Follows ls n rest → Local ls (put D n t o rest)
put-local D n t {ls = ls} o f = let_scoped o (f (n ∷ ls) (one n ls) (here n ls))

otherwise-local : (D : List Quantified) (n : ℕ) (t : Typ) (a : ℕ) (o : Otherwise) {ls : List ℕ} → Among (atom a) ls → Local ls (otherwise D n t a o)
otherwise-local D n t a again h = put-local D n t (raise_scoped h) (λ ls' g k. ret_scoped k)
otherwise-local D n t a (initial i) h = put-local D n t raise_initial_scoped (λ ls' g k. ret_scoped k)

initial-local : (D : List Quantified) (n : ℕ) (t : Typ) (a i : ℕ) {ls : List ℕ} → Local ls (otherwise D n t a (initial i))
initial-local D n t a i = put-local D n t raise_initial_scoped (λ ls' g k. ret_scoped k)

-- where variables are found
data Places (ls : List ℕ) : Spots → Type 0 where
  places_none : Places ls no_spots
  places_one : {x a : ℕ} {t : Typ} {vs : Spots} → Among (atom a) ls → Places ls vs → Places ls (spot x a t vs)

places-more : {ls ls' : List ℕ} {vs : Spots} → Grows ls ls' → Places ls vs → Places ls' vs
places-more g places_none = places_none
places-more g (places_one h p) = places_one (g _ h) (places-more g p)

abbrev Then : List ℕ → Spots → Tests → Type 0
Then ls vs rest = (ls' : List ℕ) → Grows ls ls' → Places ls' vs → Local ls' rest

then-more : {ls ls' : List ℕ} {vs : Spots} {rest : Tests} → Grows ls ls' → Then ls vs rest → Then ls' vs rest
then-more g f ls'' h p = f ls'' (further g h) p

mutual
  tests-local : (D : List Quantified) (N : Names) (p : Pat) (t : Typ) (n a : ℕ) {ls : List ℕ} {vs : Spots} {rest : Tests} → Among (atom a) ls → Places ls vs → Then ls (spots p t n a vs) rest → Local ls (tests D N p t n a rest)
  tests-local D N any_pat t n a {ls = ls} h p f = f ls (stays ls) p
  tests-local D N (variable_pat x) t n a {ls = ls} h p f = f ls (stays ls) (places_one h p)
  tests-local D N (constant_pat c) t n a {ls = ls} h p f = switch_scoped h (arm_scoped literal_scoped (f ls (stays ls) p) no_arms_scoped)
  tests-local D N (con_pat c) t n a {ls = ls} h p f = switch_scoped h (arm_scoped con_scoped (f ls (stays ls) p) no_arms_scoped)
  tests-local D N (con_of_pat c u q) t n a {ls = ls} h p f = switch_scoped h (arm_scoped con_of_scoped (tests-local D N q u (suc n) n (here n ls) (places-more (one n ls) p) (then-more (one n ls) f)) no_arms_scoped)
  tests-local D N (ref_of_pat u q) t n a h p f = put-local D n u (content_scoped h) (λ ls' g k. tests-local D N q u (suc n) n k (places-more g p) (then-more g f))
  tests-local D N (exn_pat x) t n a {ls = ls} h p f = name_scoped (reaches N x ls) (switch_scoped (among_there h) (arm_scoped (exn_scoped (here n ls)) (f (n ∷ ls) (one n ls) (places-more (one n ls) p)) no_arms_scoped))
  tests-local D N (exn_of_pat x u q) t n a {ls = ls} h p f =
      let ls1 = n ∷ ls in let ls2 = suc n ∷ ls1 in let g : Grows ls ls2 = λ v z. among_there (among_there z) in
      name_scoped (reaches N x ls) (switch_scoped (among_there h) (arm_scoped (exn_of_scoped (here n ls)) (tests-local D N q u (suc (suc n)) (suc n) (here (suc n) ls1) (places-more g p) (then-more g f)) no_arms_scoped))
  tests-local D N (fields_pat further ps) t n a h p f = switch_scoped h (arm_scoped record_scoped (field-tests-local D N ps t n a h p f) no_arms_scoped)
  tests-local D N (as_pat x q) t n a h p f = tests-local D N q t n a h (places_one h p) f

  field-tests-local : (D : List Quantified) (N : Names) (ps : PatFields) (t : Typ) (n a : ℕ) {ls : List ℕ} {vs : Spots} {rest : Tests} → Among (atom a) ls → Places ls vs → Then ls (field_spots ps n vs) rest → Local ls (field_tests D N ps t n a rest)
  field-tests-local D N no_pats t n a {ls = ls} h p f = f ls (stays ls) p
  field-tests-local D N (a_pat l u q ps) t n a h p f =
      put-local D n u (select_scoped h) (λ ls1 g k. tests-local D N q u (suc n) n k (places-more g p) (λ ls2 g' p'. field-tests-local D N ps t (past_pat q (suc n)) a (g' _ (g _ h)) p' (then-more (further g g') f)))

matching-local : (D : List Quantified) (N : Names) (p : Pat) (t : Typ) (n a : ℕ) {ls : List ℕ} {rest : Tests} → Among (atom a) ls → ((ls' : List ℕ) → Grows ls ls' → Local ls' rest) → Local ls (tests D N p t n a rest)
matching-local D N p t n a h f = tests-local D N p t n a h places_none (λ ls' g p'. f ls' g)

row-local : {ls : List ℕ} {vs : Spots} (l : ℕ) → Places ls vs → RowScoped poly ls (spots_row vs l)
row-local l places_none = no_row_scoped
row-local l (places_one h p) = a_row_scoped h (row-local (suc l) p)

together-local : (D : List Quantified) {ls : List ℕ} {vs : Spots} (j : ℕ) → Places ls vs → Local ls (together D vs j)
together-local D {vs = vs} j p = put-local D j (record_type vs) (make_record_scoped (row-local 1 p)) (λ ls' g k. ret_scoped k)

split-local : (D qs : List Quantified) (u : Typ) (r : ℕ) (vs : Spots) (l k : ℕ) {ls : List ℕ} {rest : Tests} → ((ls' : List ℕ) → Grows ls ls' → Local ls' rest) → Local ls (split D qs u r vs l k rest)
split-local D qs u r no_spots l k {ls = ls} f = f ls (stays ls)
split-local D qs u r (spot x a t vs) l k {ls = ls} f =
    let_scoped (block_scoped (put-local (qs ++ D) k u (use_scoped tt) (λ ls1 g1 h1. put-local (qs ++ D) (suc k) t (select_scoped h1) (λ ls2 g2 h2. ret_scoped h2))))
    (split-local D qs u r vs (suc l) (suc (suc (suc k))) (λ ls' g. f ls' (further (one (suc (suc k)) ls) g)))

shaped-local : (s : Shape) (D qs : List Quantified) (p : Pat) (t : Typ) (i : ℕ) {ls : List ℕ} {plainly value all rest : Tests} → Local ls plainly → Local ls value → Local ls all → ((ls' : List ℕ) → Grows ls ls' → Local ls' rest) → Local ls (shaped s D qs p t i plainly value all rest)
shaped-local plain D qs p t i h v k f = h
shaped-local (alone x) D qs p t i {ls = ls} h v k f = let_scoped (block_scoped v) (f (suc i ∷ ls) (one (suc i) ls))
shaped-local recorded D qs p t i {ls = ls} h v k f =
    let r = suc (suc (past_pat p (suc i))) in let vs = spots p t (suc i) i no_spots in let u = record_type vs in
    let_scoped (block_scoped (first_scoped k (initial-local (qs ++ D) (suc (past_pat p (suc i))) u i bind_name)))
    (split-local D qs u r vs 1 (suc r) (λ ls' g. f ls' (further (one r ls) g)))

groups-grow : (fs : te.Funs poly) (ls : List ℕ) → Grows ls (group_onto poly fs ls)
groups-grow te.no_funs ls u h = h
groups-grow (te.fun x t f fs) ls u h = among_there (groups-grow fs ls u h)

grouped-local : (qs : List Quantified) (fs : te.Funs poly) {ls : List ℕ} {rest : Tests} → FunsScoped poly false [] fs → Local (group_onto poly fs ls) rest → Local ls (grouped qs fs rest)
grouped-local qs te.no_funs h k = k
grouped-local qs (te.fun x t f fs) h k = rec_scoped h k

weighed-local : (f : Exp) {ls : List ℕ} {rest : Tests} → Local ls rest → Local ls (weighed f rest)
weighed-local (constant_exp l t) h = h
weighed-local (variable_exp x ts t) h = h
weighed-local (own_exp x t) h = h
weighed-local (con_exp c y ts t) h = h
weighed-local (ref_exp v t) h = h
weighed-local (exn_exp x t) h = h
weighed-local (prim_exp p ts t) h = h
weighed-local (fields_exp t fs) h = h
weighed-local (let_exp t ds e) h = h
weighed-local (app_exp place t f a) h = h
weighed-local (case_exp place t e rs) h = h
weighed-local (chain_exp b t c) h = h
weighed-local (handle_exp t e rs) h = h
weighed-local (raise_exp t e) h = h
weighed-local (fn_exp t f) h = h
weighed-local (counted_exp n t f) h = counted_scoped (weighed-local f h)

-- a name that is brought in is there when the value is built
abbrev Named : Built → ℕ → List ℕ → Type 0
Named (a_con c) n ls = ⊤
Named (a_ref u) n ls = ⊤
Named (an_exn x) n ls = Among (atom n) ls

named-more : (b : Built) (n : ℕ) {ls ls' : List ℕ} → Grows ls ls' → Named b n ls → Named b n ls'
named-more (a_con c) n g h = tt
named-more (a_ref u) n g h = tt
named-more (an_exn x) n g h = g _ h

beginning-local : (N : Names) (b : Built) (n : ℕ) {ls : List ℕ} {rest : Tests} → ((ls' : List ℕ) → Grows ls ls' → Named b n ls' → Local ls' rest) → Local ls (beginning N b n rest)
beginning-local N (a_con c) n {ls = ls} f = f ls (stays ls) tt
beginning-local N (a_ref u) n {ls = ls} f = f ls (stays ls) tt
beginning-local N (an_exn x) n {ls = ls} f = name_scoped (reaches N x ls) (f (n ∷ ls) (one n ls) (here n ls))

building-local : (D : List Quantified) (b : Built) (place : Place) (t u : Typ) (n i : ℕ) {ls : List ℕ} → Named b n ls → Among (atom i) ls → OpLocal ls (building D b place t u n i)
building-local D (a_con c) place t u n i h k = construct_scoped k
building-local D (a_ref v) place t u n i h k = refer_scoped k
building-local D (an_exn x) place t u n i h k = pack_scoped h k

direct-local : (b : Bool) (i j : ℕ) {ls : List ℕ} {x y rest : Tests} → (b ≡ true → Follows ls i rest → Local ls x) → (Follows ls j rest → Local ls y) → Follows ls (if b then i else j) rest → Local ls (if b then x else y)
direct-local true i j h g f = h refl f
direct-local false i j h g f = g f

along-local : (y : Way) (i : ℕ) (j : Built → ℕ) (l : BasisPrimitive → Typ → ℕ) {ls : List ℕ} {called : Tests} {built : Built → Tests} {done : BasisPrimitive → Typ → Tests} {rest : Tests} → (Follows ls i rest → Local ls called) → ((b : Built) → Follows ls (j b) rest → Local ls (built b)) → ((p : BasisPrimitive) (u : Typ) → Follows ls (l p u) rest → Local ls (done p u))
    → Follows ls (along y i j l) rest → Local ls (along y called built done)
along-local by_call i j l h g d f = h f
along-local (by_building b) i j l h g d f = g b f
along-local (by_performing p u) i j l h g d f = d p u f

mutual
  making-local : (D : List Quantified) (N : Names) (e : Exp) (n : ℕ) {ls : List ℕ} {rest : Tests} → Follows ls (value_at e n) rest → Local ls (making D N e n rest)
  making-local D N (constant_exp c t) n f = put-local D n t const_scoped f
  making-local D N (variable_exp x ts t) n f = put-local D n t (use_scoped tt) f
  making-local D N (own_exp x t) n f = put-local D n t (use_scoped tt) f
  making-local D N (con_exp c y ts t) n f = put-local D n t con_alone_scoped f
  making-local D N (ref_exp u t) n f = put-local D n t ref_alone_scoped f
  making-local D N (exn_exp x t) n {ls = ls} f = name_scoped (reaches N x ls) (put-local D (suc n) t (use_scoped tt) (λ lz gz az. f lz (further (one n ls) gz) az))
  making-local D N (prim_exp p ts t) n f = put-local D n t prim_alone_scoped f
  making-local D N (fields_exp t fs) n f = all-local D N fs n (λ ls1 g1 r1 a1. put-local D (past_fields fs n) t (make_record_scoped (sorted-scoped r1)) (λ lz gz az. f lz (further g1 gz) az))
  making-local D N (let_exp t ds e) n f =
      let i = past_decs ds n in let j = value_at e i in
      put-local D (suc (suc j)) t (block_scoped (first_scoped (decs-local D N ds n (λ ls1 g1. making-local D (decs_named ds n N) e i (λ ls2 g2 h2. ret_scoped h2))) (initial-local D (suc j) t n bind_name))) f
  making-local D N (app_exp place t g a) n {ls = ls} f =
      along-local (way g a) _ _ _
      (λ z. making-local D N g n (λ ls1 g1 h1. making-local D N a (suc (value_at g n)) (λ ls2 g2 h2. put-local D (suc (value_at a (suc (value_at g n)))) t (app_scoped (g2 _ h1) h2) (λ lz gz az. z lz (further (further g1 g2) gz) az))))
      (λ b z. let m = past_built b n in let i = value_at a m in
      beginning-local N b n (λ ls1 g1 h1. weighed-local g (making-local D N a m (λ ls2 g2 h2. put-local D (suc i) t (building-local D b place t (type_of a) n i (named-more b n g2 h1) h2) (λ lz gz az. z lz (further (further g1 g2) gz) az)))))
      (λ p u z. weighed-local g (tuple-local D N a n (λ ls1 g1 a1. put-local D (past_tuple a n) t (prim_scoped a1) (λ lz gz az. z lz (further g1 gz) az))))
      f
  making-local D N (case_exp place t e rs) n f =
      let i = value_at e n in
      making-local D N e n (λ ls1 g1 h1. direct-local (is_direct rs) (value_of_rule rs (suc i)) (past_rules rs (suc i)) (λ d k. rule-local D N rs d (type_of e) (suc i) i k)
      (λ k. put-local D (past_rules rs (suc i)) t (block_scoped (rules-local D N rs (type_of e) t (suc i) i (initial match_name) h1)) k) (λ lz gz az. f lz (further g1 gz) az))
  making-local D N (chain_exp b t c) n f = put-local D (suc (past_chain c n)) t (block_scoped (first_scoped (links-local D N c b n) (initial-local D (past_chain c n) bool_type n match_name))) f
  making-local D N (handle_exp t e rs) n {ls = ls} f =
      let i = value_at e n in
      put-local D (past_rules rs (suc (suc i))) t (handle_scoped (making-local D N e n (λ ls1 g1 h1. ret_scoped h1)) (rules-local D N rs exception_type t (suc (suc i)) (suc i) again (here (suc i) ls))) f
  making-local D N (raise_exp t e) n f = making-local D N e n (λ ls1 g1 h1. put-local D (suc (value_at e n)) t (raise_scoped h1) (λ lz gz az. f lz (further g1 gz) az))
  making-local D N (fn_exp t g) n f = put-local D (past_fun g n) t (fn_scoped (function-local D N g n)) f
  making-local D N (counted_exp k t e) n f = counted_scoped (making-local D N e n f)

  rule-local : (D : List Quantified) (N : Names) (rs : Rules) → is_direct rs ≡ true → (u : Typ) (n a : ℕ) {ls : List ℕ} {rest : Tests} → Follows ls (value_of_rule rs n) rest → Local ls (making_rule D N rs u n a rest)
  rule-local D N no_rules d u n a f = absurd (cc)
  rule-local D N (a_rule p e rs) d u n a f = making-local D (spots_named (spots p u n a no_spots) N) e n f

  tuple-local : (D : List Quantified) (N : Names) (e : Exp) (n : ℕ) {ls : List ℕ} {rest : Tests} → ((ls' : List ℕ) → Grows ls ls' → AtomsScoped poly ls' (tuple_atoms e n) → Local ls' rest) → Local ls (making_tuple D N e n rest)
  tuple-local D N (fields_exp t fs) n f = all-local D N fs n (λ ls1 g1 r1 a1. f ls1 g1 a1)
  tuple-local D N (counted_exp k t e) n f = counted_scoped (tuple-local D N e n f)
  tuple-local D N (constant_exp l t) n {ls = ls} f = f ls (stays ls) no_atoms_scoped
  tuple-local D N (variable_exp x ts t) n {ls = ls} f = f ls (stays ls) no_atoms_scoped
  tuple-local D N (own_exp x t) n {ls = ls} f = f ls (stays ls) no_atoms_scoped
  tuple-local D N (con_exp c y ts t) n {ls = ls} f = f ls (stays ls) no_atoms_scoped
  tuple-local D N (ref_exp u t) n {ls = ls} f = f ls (stays ls) no_atoms_scoped
  tuple-local D N (exn_exp x t) n {ls = ls} f = f ls (stays ls) no_atoms_scoped
  tuple-local D N (prim_exp p ts t) n {ls = ls} f = f ls (stays ls) no_atoms_scoped
  tuple-local D N (let_exp t ds e) n {ls = ls} f = f ls (stays ls) no_atoms_scoped
  tuple-local D N (app_exp place t g a) n {ls = ls} f = f ls (stays ls) no_atoms_scoped
  tuple-local D N (case_exp place t e rs) n {ls = ls} f = f ls (stays ls) no_atoms_scoped
  tuple-local D N (chain_exp b t c) n {ls = ls} f = f ls (stays ls) no_atoms_scoped
  tuple-local D N (handle_exp t e rs) n {ls = ls} f = f ls (stays ls) no_atoms_scoped
  tuple-local D N (raise_exp t e) n {ls = ls} f = f ls (stays ls) no_atoms_scoped
  tuple-local D N (fn_exp t g) n {ls = ls} f = f ls (stays ls) no_atoms_scoped

  all-local : (D : List Quantified) (N : Names) (fs : Fields) (n : ℕ) {ls : List ℕ} {rest : Tests} → ((ls' : List ℕ) → Grows ls ls' → RowScoped poly ls' (field_row fs n) → AtomsScoped poly ls' (field_atoms fs n) → Local ls' rest) → Local ls (making_all D N fs n rest)
  all-local D N no_fields n {ls = ls} f = f ls (stays ls) no_row_scoped no_atoms_scoped
  all-local D N (a_field l e fs) n f = making-local D N e n (λ ls1 g1 h1. all-local D N fs (suc (value_at e n)) (λ ls2 g2 r2 a2. f ls2 (further g1 g2) (a_row_scoped (g2 _ h1) r2) (an_atom_scoped (g2 _ h1) a2)))

  links-local : (D : List Quantified) (N : Names) (c : Chain) (b : Bool) (n : ℕ) {ls : List ℕ} → Local ls (links D N c b n)
  links-local D N (only e) b n = making-local D N e n (λ ls1 g1 h1. ret_scoped h1)
  links-local D N (link e c) b n = making-local D N e n (λ ls1 g1 h1. switch_scoped h1 (arm_scoped con_scoped (links-local D N c b (suc (value_at e n))) (arm_scoped con_scoped (ret_scoped h1) no_arms_scoped)))

  function-local : (D : List Quantified) (N : Names) (f : Fun) (n : ℕ) → FunScoped poly false [] (function D N f n)
  function-local D N (last x t e) n = last_scoped (making-local D (named x n N) e (suc n) (λ ls1 g1 h1. ret_scoped h1))
  function-local D N (by_rules place t u rs) n = last_scoped (rules-local D N rs t u (suc n) n (initial match_name) (here n []))
  function-local D N (more x t f) n = more_scoped (function-local D (named x n N) f (suc n))

  rules-local : (D : List Quantified) (N : Names) (rs : Rules) (u t : Typ) (n a : ℕ) (o : Otherwise) {ls : List ℕ} → Among (atom a) ls → Local ls (rules D N rs u t n a o)
  rules-local D N no_rules u t n a o h = otherwise-local D n t a o h
  rules-local D N (a_rule p e rs) u t n a o h =
      let i = past_pat p n in
      first_scoped (matching-local D N p u n a h (λ ls1 g1. making-local D (spots_named (spots p u n a no_spots) N) e i (λ ls2 g2 h2. ret_scoped h2))) (rules-local D N rs u t (suc (value_at e i)) a o h)

  bindings-local : (D : List Quantified) (N : Names) (qs : List Quantified) (bs : Binds) (n : ℕ) {ls : List ℕ} {rest : Tests} → ((ls' : List ℕ) → Grows ls ls' → Local ls' rest) → Local ls (bindings D N qs bs n rest)
  bindings-local D N qs no_binds n {ls = ls} f = f ls (stays ls)
  bindings-local D N qs (a_bind place b p t e bs) n {ls = ls} {rest = rest} f =
      let s = shape qs b p in let i = value_at e n in let m = past_shape s p t i in let E = qs ++ D in
      let next : (ls' : List ℕ) → Grows ls ls' → Local ls' (bindings D N qs bs m rest) = λ ls' g. bindings-local D N qs bs m (λ ls2 g2. f ls2 (further g g2)) in
      shaped-local s D qs p t i
      (making-local D N e n (λ ls1 g1 h1. matching-local D N p t (suc i) i h1 (λ ls2 g2. next ls2 (further g1 g2))))
      (making-local E N e n (λ ls1 g1 h1. ret_scoped h1))
      (making-local E N e n (λ ls1 g1 h1. tests-local E N p t (suc i) i h1 places_none (λ ls2 g2 p2. together-local E (past_pat p (suc i)) p2)))
      next

  decs-local : (D : List Quantified) (N : Names) (ds : Decs) (n : ℕ) {ls : List ℕ} {rest : Tests} → ((ls' : List ℕ) → Grows ls ls' → Local ls' rest) → Local ls (decs D N ds n rest)
  decs-local D N no_decs n {ls = ls} f = f ls (stays ls)
  decs-local D N (val_dec qs bs fs ds) n f =
      let rs = unclassed qs in
      let b = past_binds rs bs n in let m = past_group fs b in let group = functions (rs ++ D) (funs_named fs b N) fs b m in
      bindings-local D N rs bs n (λ ls1 g1. grouped-local rs group (functions-local (rs ++ D) (funs_named fs b N) fs b m) (decs-local D (val_named rs bs fs n N) ds (past_funs fs m) (λ ls2 g2. f ls2 (further g1 (further (groups-grow group ls1) g2)))))
  decs-local D N (exception_dec x identifier t ds) n {ls = ls} f = exception_scoped (decs-local D (named x n N) ds (suc n) (λ ls2 g2. f ls2 (further (one n ls) g2)))
  decs-local D N (counted_dec k ds) n f = counted_scoped (decs-local D N ds n f)

  functions-local : (D : List Quantified) (N : Names) (fs : Funs) (b n : ℕ) → FunsScoped poly false [] (functions D N fs b n)
  functions-local D N no_funs b n = no_funs_scoped
  functions-local D N (a_fun xs t f fs) b n = fun_scoped (function-local D N f n) (functions-local D N fs (suc b) (past_fun f n))

pub run-local : (ds : Decs) → IsLocal poly [] (compile ds)
run-local ds =
    let k = past_decs ds 1 in
    first_scoped (decs-local [] no_names ds 1 (λ ls g. put-local [] k unit_type (make_record_scoped no_row_scoped) (λ ls' g' h'. ret_scoped h'))) (initial-local [] (suc k) unit_type 0 bind_name)
