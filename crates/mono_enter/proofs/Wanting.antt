-- The words of each part want what the part wants, before what those behind it want.
use Rattle.std.proofs.Common.{◌≡◌, true, false, List, [], ◌∷◌, ◌++◌, Option, Some, None, refl, sym, ap, ◌∙◌}
use Rattle.std.proofs.lemmas.List.{append-nil}
use Rattle.ty_core.specs.Types.{Typ}
use Rattle.ir_plain.specs.Tree.{Atoms, no_atoms, an_atom, Row, no_row, a_row, Exp, ret, let_in, exception_in, name_in, rec_in, switch, first, miss, counted, Arms, no_arms, arm, Op, use_of, const, con_alone, construct, ref_alone, refer, content, pack, make_record, select, prim_alone, prim, app, fn, block, handle, raise, raise_initial, Fun, last, more, Funs, no_funs, fun}
use Rattle.monomorphise.specs.Monomorphise.{Named}
use Rattle.monomorphise.specs.Table.{Wanted, a_type, wanted_if, case_wanted, wanted, arms_wanted, op_wanted, fun_wanted, funs_wanted}
use Rattle.mono_words.specs.Words.{Sign, spell, spell_arms, spell_op, spell_fun, spell_heads, spell_bodies, spell_row, spell_atoms, packet_sign}
use Rattle.mono_enter.specs.Scanning.{around, heads_before, scan}

append-assoc : {A : Type 0} (a b c : List A) → (a ++ b) ++ c ≡ a ++ (b ++ c)
append-assoc [] b c = refl
append-assoc (n ∷ a) b c = ap (λ l. n ∷ l) (append-assoc a b c)

if-before : (t : Option Typ) (ws : List Wanted) → wanted_if t [] ++ ws ≡ wanted_if t ws
if-before None ws = refl
if-before (Some t) ws = refl

abbrev types_of : Funs Named → List Typ → List Typ
types_of no_funs p = p
types_of (fun k t f fs) p = t ∷ types_of fs p

heads-seen : (fs : Funs Named) (ws : List Sign) (p : List Typ) → heads_before (spell_heads fs ws) p ≡ types_of fs p
heads-seen no_funs ws p = refl
heads-seen (fun k t f fs) ws p = ap (λ l. t ∷ l) (heads-seen fs ws p)

row-wanted : (row : Row Named) (ws : List Sign) (l : List (Option Typ)) (p : List Typ) → scan (spell_row row ws) (around (None ∷ l) p false) ≡ scan ws (around l p false)
row-wanted no_row ws l p = refl
row-wanted (a_row m k row) ws l p = row-wanted row ws l p

atoms-wanted : (as_ : Atoms Named) (ws : List Sign) (l : List (Option Typ)) (p : List Typ) → scan (spell_atoms as_ ws) (around (None ∷ l) p false) ≡ scan ws (around l p false)
atoms-wanted no_atoms ws l p = refl
atoms-wanted (an_atom k as_) ws l p = atoms-wanted as_ ws l p

heads-wanted : (fs : Funs Named) (ws : List Sign) (l : List (Option Typ)) (p : List Typ) → scan (spell_heads fs ws) (around (None ∷ l) p false) ≡ scan ws (around l p false)
heads-wanted no_funs ws l p = refl
heads-wanted (fun k t f fs) ws l p = heads-wanted fs ws l p

-- a body that begins wants its function's type first
begins : (t : Typ) (f : Fun Named) (ws : List Sign) (l : List (Option Typ)) (p : List Typ) → scan (spell_fun f ws) (around l (t ∷ p) false) ≡ a_type t ∷ scan (spell_fun f ws) (around l p true)
begins t (last k u e) ws l p = refl
begins t (more k u f) ws l p = refl

mutual
  exp-wanted : (e : Exp Named) (ws : List Sign) (l : List (Option Typ)) (p : List Typ) → scan (spell e ws) (around l p false) ≡ wanted e ++ scan ws (around l p false)
  exp-wanted (ret k) ws l p = refl
  exp-wanted (let_in k u t o e) ws l p =
      ap (λ r. a_type t ∷ r) (op-wanted o (spell e ws) l p ∙ ap (λ r. op_wanted o ++ r) (exp-wanted e ws l p) ∙ sym (append-assoc (op_wanted o) (wanted e) (scan ws (around l p false))))
  exp-wanted (exception_in k i None e) ws l p = exp-wanted e ws l p
  exp-wanted (exception_in k i (Some t) e) ws l p = ap (λ r. a_type t ∷ r) (exp-wanted e ws l p)
  exp-wanted (name_in k j e) ws l p = exp-wanted e ws l p
  exp-wanted (rec_in u fs e) ws l p =
      ap (λ q. scan (spell_heads fs (spell_bodies fs (spell e ws))) (around (None ∷ l) q false)) (heads-seen fs (spell_bodies fs (spell e ws)) p)
      ∙ heads-wanted fs (spell_bodies fs (spell e ws)) l (types_of fs p) ∙ bodies-wanted fs (spell e ws) l p ∙ ap (λ r. funs_wanted fs ++ r) (exp-wanted e ws l p)
      ∙ sym (append-assoc (funs_wanted fs) (wanted e) (scan ws (around l p false)))
  exp-wanted (switch k t arms) ws l p = ap (λ r. a_type t ∷ r) (arms-wanted t arms ws l p)
  exp-wanted (first e d) ws l p = exp-wanted e (spell d ws) l p ∙ ap (λ r. wanted e ++ r) (exp-wanted d ws l p) ∙ sym (append-assoc (wanted e) (wanted d) (scan ws (around l p false)))
  exp-wanted miss ws l p = refl
  exp-wanted (counted n e) ws l p = exp-wanted e ws l p

  arms-wanted : (t : Typ) (arms : Arms Named) (ws : List Sign) (l : List (Option Typ)) (p : List Typ) → scan (spell_arms arms ws) (around (Some t ∷ l) p false) ≡ arms_wanted t arms ++ scan ws (around l p false)
  arms-wanted t no_arms ws l p = refl
  arms-wanted t (arm c e arms) ws l p =
      ap (λ r. case_wanted t c ++ r)
      (exp-wanted e (spell_arms arms ws) (Some t ∷ l) p ∙ ap (λ r. wanted e ++ r) (arms-wanted t arms ws l p) ∙ sym (append-assoc (wanted e) (arms_wanted t arms) (scan ws (around l p false))))
      ∙ sym (append-assoc (case_wanted t c) (wanted e ++ arms_wanted t arms) (scan ws (around l p false)))

  op-wanted : (o : Op Named) (ws : List Sign) (l : List (Option Typ)) (p : List Typ) → scan (spell_op o ws) (around l p false) ≡ op_wanted o ++ scan ws (around l p false)
  op-wanted (use_of k) ws l p = refl
  op-wanted (const c) ws l p = refl
  op-wanted (con_alone c t) ws l p = refl
  op-wanted (construct m c t k) ws l p = refl
  op-wanted (ref_alone t) ws l p = refl
  op-wanted (refer m t k) ws l p = refl
  op-wanted (content t k) ws l p = refl
  op-wanted (pack m t j k) ws l p = refl
  op-wanted (make_record t row) ws l p = ap (λ r. a_type t ∷ r) (row-wanted row ws l p)
  op-wanted (select t n k) ws l p = refl
  op-wanted (prim_alone q t) ws l p = refl
  op-wanted (prim m q t as_) ws l p = ap (λ r. a_type t ∷ r) (atoms-wanted as_ ws l p)
  op-wanted (app place j k) ws l p = refl
  op-wanted (fn f) ws l p = fun-wanted f ws l p
  op-wanted (block e) ws l p = exp-wanted e ws l p
  op-wanted (handle e k d) ws l p = exp-wanted e (packet_sign k ∷ spell d ws) l p ∙ ap (λ r. wanted e ++ r) (exp-wanted d ws l p) ∙ sym (append-assoc (wanted e) (wanted d) (scan ws (around l p false)))
  op-wanted (raise k) ws l p = refl
  op-wanted (raise_initial i) ws l p = refl

  fun-wanted : (f : Fun Named) (ws : List Sign) (l : List (Option Typ)) (p : List Typ) → scan (spell_fun f ws) (around l p true) ≡ fun_wanted f ++ scan ws (around l p false)
  fun-wanted (last k t e) ws l p = ap (λ r. a_type t ∷ r) (exp-wanted e ws l p)
  fun-wanted (more k t f) ws l p = ap (λ r. a_type t ∷ r) (fun-wanted f ws l p)

  bodies-wanted : (fs : Funs Named) (ws : List Sign) (l : List (Option Typ)) (p : List Typ) → scan (spell_bodies fs ws) (around l (types_of fs p) false) ≡ funs_wanted fs ++ scan ws (around l p false)
  bodies-wanted no_funs ws l p = refl
  bodies-wanted (fun k t f fs) ws l p =
      begins t f (spell_bodies fs ws) l (types_of fs p)
      ∙ ap (λ r. a_type t ∷ r) (fun-wanted f (spell_bodies fs ws) l (types_of fs p) ∙ ap (λ r. fun_wanted f ++ r) (bodies-wanted fs ws l p) ∙ sym (append-assoc (fun_wanted f) (funs_wanted fs) (scan ws (around l p false))))

pub whole-wanted : (e : Exp Named) → scan (spell e []) (around [] [] false) ≡ wanted e
whole-wanted e = exp-wanted e [] [] [] ∙ append-nil (wanted e)
