-- The instruction that has a row.
use Rattle.std.proofs.Common.{◌≡◌, ℕ, ◌<◌, ◌≤◌, Bool, true, false, ◌&&◌, ◌||◌, ◌⊎◌, inl, inr, eqb, leb, List, [], ◌∷◌, get_or, map, refl, sym, ap, ◌∙◌, arith, lit≤}
use borrow.Author.Count.{below_none, below_more}
use Rattle.std.specs.List.{AllByRecursion, list_any}
use Rattle.std.proofs.lemmas.Bool.{eqb-true, leb-true}
use Rattle.ir_code.specs.declared.instr.Instr.{Instr}
use Rattle.ir_code.specs.declared.instr.Instr.TheVariants.{Li, Mov, Jmp, Brz, Switch, Call, Ret, Acc, PushHandler, PopHandler, Raise, End, Alloc, AllocVar, Ld, St, Copy, Add, Sub, Mul, IDiv, IMod, IQuot, IRem, WAdd, WSub, WMul, WDiv, WMod, And, Or, Xor, Shl, Shr, Sar, ILt, ULt, Eq, SCmp, IText, Print}
use Rattle.ir_code.specs.ImageLaws.{RowsAreExact, OneInstrPerRow}
use Rattle.ir_code.proofs.Cuts.{row_is_instr}
use Rattle.ir_code.specs.ImageBytes.{Row, row_of, is_instr, names_three, names_two, names_one}

-- all instructions with these operands, by their numbers
instrs : ℕ → ℕ → ℕ → List Instr
instrs a b c = End ∷ Li a b ∷ Mov a b ∷ Jmp a ∷ Brz a b ∷ Switch a b ∷ Call a b ∷ Ret a ∷ Acc a ∷ PushHandler a b ∷ PopHandler a ∷ Raise a ∷ End ∷ Alloc a b ∷ AllocVar a b ∷ Ld a b c ∷ St a b c ∷ Copy a b c ∷ Add a b c ∷ Sub a b c ∷ Mul a b c ∷ IDiv a b c ∷ IMod a b c ∷ IQuot a b c ∷ IRem a b c ∷ WAdd a b c ∷ WSub a b c ∷ WMul a b c ∷ WDiv a b c ∷ WMod a b c ∷ And a b c ∷ Or a b c ∷ Xor a b c ∷ Shl a b c ∷ Shr a b c ∷ Sar a b c ∷ ILt a b c ∷ ULt a b c ∷ Eq a b c ∷ SCmp a b c ∷ IText a b ∷ Print a ∷ []

pub instr_at : Row → Instr
instr_at r = get_or (instrs r.1 r.2 r.3) r.0 End

pub instr_at-row_of : (i : Instr) → instr_at (row_of i) ≡ i
unfolding instr_at instrs
instr_at-row_of (Li a b) = refl
instr_at-row_of (Mov a b) = refl
instr_at-row_of (Jmp a) = refl
instr_at-row_of (Brz a b) = refl
instr_at-row_of (Switch a b) = refl
instr_at-row_of (Call a b) = refl
instr_at-row_of (Ret a) = refl
instr_at-row_of (Acc a) = refl
instr_at-row_of (PushHandler a b) = refl
instr_at-row_of (PopHandler a) = refl
instr_at-row_of (Raise a) = refl
instr_at-row_of End = refl
instr_at-row_of (Alloc a b) = refl
instr_at-row_of (AllocVar a b) = refl
instr_at-row_of (Ld a b c) = refl
instr_at-row_of (St a b c) = refl
instr_at-row_of (Copy a b c) = refl
instr_at-row_of (Add a b c) = refl
instr_at-row_of (Sub a b c) = refl
instr_at-row_of (Mul a b c) = refl
instr_at-row_of (IDiv a b c) = refl
instr_at-row_of (IMod a b c) = refl
instr_at-row_of (IQuot a b c) = refl
instr_at-row_of (IRem a b c) = refl
instr_at-row_of (WAdd a b c) = refl
instr_at-row_of (WSub a b c) = refl
instr_at-row_of (WMul a b c) = refl
instr_at-row_of (WDiv a b c) = refl
instr_at-row_of (WMod a b c) = refl
instr_at-row_of (And a b c) = refl
instr_at-row_of (Or a b c) = refl
instr_at-row_of (Xor a b c) = refl
instr_at-row_of (Shl a b c) = refl
instr_at-row_of (Shr a b c) = refl
instr_at-row_of (Sar a b c) = refl
instr_at-row_of (ILt a b c) = refl
instr_at-row_of (ULt a b c) = refl
instr_at-row_of (Eq a b c) = refl
instr_at-row_of (SCmp a b c) = refl
instr_at-row_of (IText a b) = refl
instr_at-row_of (Print a) = refl

pub codes : (code : List Instr) → map instr_at (map row_of code) ≡ code
codes [] = refl
codes (i ∷ is) = rw (instr_at-row_of i, codes is) refl

-- ---- a row that is an instruction's

pub both : (b x : Bool) → b && x ≡ true → (b ≡ true) × (x ≡ true)
both true x e = (refl, e)
both false x e = absurd cc

either : (b x : Bool) → b || x ≡ true → (b ≡ true) ⊎ (x ≡ true)
either true x e = inl refl
either false x e = inr e

among : (op most : ℕ) (ks : List ℕ) → AllByRecursion (λ k. k ≤ most) ks → list_any (λ k. eqb op k) ks ≡ true → op ≤ most
among op most [] h e = absurd cc
among op most (k ∷ ks) h e = elim (either (eqb op k) (list_any (λ j. eqb op j) ks) e) [
  | inl here ↦ omega (arith, eqb-true op k here, h.0)
  | inr later ↦ among op most ks h.1 later
]

-- what is left to hold of a row that has no three operands, no two, no one
abbrev no_one : ℕ → ℕ → ℕ → ℕ → Bool
no_one op a b c = eqb a 0 && eqb op 12

abbrev no_two : ℕ → ℕ → ℕ → ℕ → Bool
no_two op a b c = eqb b 0 && (names_one op || no_one op a b c)

abbrev no_three : ℕ → ℕ → ℕ → ℕ → Bool
no_three op a b c = eqb c 0 && (names_two op || no_two op a b c)

-- the operations end at 41
last_op : (op a b c : ℕ) → is_instr (op, a, b, c) ≡ true → op < 42
last_op op a b c e = elim (either (names_three op) (no_three op a b c) e) [
  | inl three ↦ omega (arith, leb-true op 39 (both (leb 15 op) (leb op 39) three).1)
  | inr fewer ↦ elim (either (names_two op) (no_two op a b c) (both (eqb c 0) (names_two op || no_two op a b c) fewer).1) [
    | inl two ↦ omega (arith, among op 40 (1 ∷ 2 ∷ 4 ∷ 5 ∷ 6 ∷ 9 ∷ 13 ∷ 14 ∷ 40 ∷ []) (lit≤ tt, (lit≤ tt, (lit≤ tt, (lit≤ tt, (lit≤ tt, (lit≤ tt, (lit≤ tt, (lit≤ tt, (lit≤ tt, tt))))))))) two)
    | inr less ↦ elim (either (names_one op) (no_one op a b c) (both (eqb b 0) (names_one op || no_one op a b c) less).1) [
      | inl one ↦ omega (arith, among op 41 (3 ∷ 7 ∷ 8 ∷ 10 ∷ 11 ∷ 41 ∷ []) (lit≤ tt, (lit≤ tt, (lit≤ tt, (lit≤ tt, (lit≤ tt, (lit≤ tt, tt)))))) one)
      | inr none ↦ omega (arith, eqb-true op 12 (both (eqb a 0) (eqb op 12) none).1)
    ]
  ]
]

-- an operation whose instruction has the row, where there is one
abbrev HasRow : ℕ → Type 0
HasRow op = (a b c : ℕ) → is_instr (op, a, b, c) ≡ true → row_of (instr_at (op, a, b, c)) ≡ (op, a, b, c)

zero_c : (op a b c : ℕ) (x : Bool) → eqb c 0 && x ≡ true → (let r : Row = (op, a, b, 0) in r) ≡ (op, a, b, c)
zero_c op a b c x e = rw (eqb-true c 0 (both (eqb c 0) x e).0) refl

zero_b : (op a b c : ℕ) (x : Bool) → eqb c 0 && (eqb b 0 && x) ≡ true → (let r : Row = (op, a, 0, 0) in r) ≡ (op, a, b, c)
zero_b op a b c x e =
    let p = both (eqb c 0) (eqb b 0 && x) e in
    rw (eqb-true c 0 p.0, eqb-true b 0 (both (eqb b 0) x p.1).0) refl

zero_a : (op a b c : ℕ) (x : Bool) → eqb c 0 && (eqb b 0 && (eqb a 0 && x)) ≡ true → (let r : Row = (op, 0, 0, 0) in r) ≡ (op, a, b, c)
zero_a op a b c x e =
    let p = both (eqb c 0) (eqb b 0 && (eqb a 0 && x)) e in
    let q = both (eqb b 0) (eqb a 0 && x) p.1 in
    rw (eqb-true c 0 p.0, eqb-true b 0 q.0, eqb-true a 0 (both (eqb a 0) x q.1).0) refl

nowhere : (a b c : ℕ) → eqb c 0 && (eqb b 0 && (eqb a 0 && false)) ≡ true → ⊥
nowhere a b c e =
    let p = both (eqb c 0) (eqb b 0 && (eqb a 0 && false)) e in
    let q = both (eqb b 0) (eqb a 0 && false) p.1 in
    let r = both (eqb a 0) false q.1 in
    let f : false ≡ true = r.1 in cc

each_op : (op : ℕ) → op < 42 → HasRow op
unfolding instr_at instrs
each_op =
    let up0 = below_more HasRow 0 (below_none HasRow) (λ a b c e. absurd (nowhere a b c e)) in
    let up1 = below_more HasRow 1 up0 (λ a b c e. zero_c 1 a b c true e) in
    let up2 = below_more HasRow 2 up1 (λ a b c e. zero_c 2 a b c true e) in
    let up3 = below_more HasRow 3 up2 (λ a b c e. zero_b 3 a b c true e) in
    let up4 = below_more HasRow 4 up3 (λ a b c e. zero_c 4 a b c true e) in
    let up5 = below_more HasRow 5 up4 (λ a b c e. zero_c 5 a b c true e) in
    let up6 = below_more HasRow 6 up5 (λ a b c e. zero_c 6 a b c true e) in
    let up7 = below_more HasRow 7 up6 (λ a b c e. zero_b 7 a b c true e) in
    let up8 = below_more HasRow 8 up7 (λ a b c e. zero_b 8 a b c true e) in
    let up9 = below_more HasRow 9 up8 (λ a b c e. zero_c 9 a b c true e) in
    let up10 = below_more HasRow 10 up9 (λ a b c e. zero_b 10 a b c true e) in
    let up11 = below_more HasRow 11 up10 (λ a b c e. zero_b 11 a b c true e) in
    let up12 = below_more HasRow 12 up11 (λ a b c e. zero_a 12 a b c true e) in
    let up13 = below_more HasRow 13 up12 (λ a b c e. zero_c 13 a b c true e) in
    let up14 = below_more HasRow 14 up13 (λ a b c e. zero_c 14 a b c true e) in
    let up15 = below_more HasRow 15 up14 (λ a b c e. refl) in
    let up16 = below_more HasRow 16 up15 (λ a b c e. refl) in
    let up17 = below_more HasRow 17 up16 (λ a b c e. refl) in
    let up18 = below_more HasRow 18 up17 (λ a b c e. refl) in
    let up19 = below_more HasRow 19 up18 (λ a b c e. refl) in
    let up20 = below_more HasRow 20 up19 (λ a b c e. refl) in
    let up21 = below_more HasRow 21 up20 (λ a b c e. refl) in
    let up22 = below_more HasRow 22 up21 (λ a b c e. refl) in
    let up23 = below_more HasRow 23 up22 (λ a b c e. refl) in
    let up24 = below_more HasRow 24 up23 (λ a b c e. refl) in
    let up25 = below_more HasRow 25 up24 (λ a b c e. refl) in
    let up26 = below_more HasRow 26 up25 (λ a b c e. refl) in
    let up27 = below_more HasRow 27 up26 (λ a b c e. refl) in
    let up28 = below_more HasRow 28 up27 (λ a b c e. refl) in
    let up29 = below_more HasRow 29 up28 (λ a b c e. refl) in
    let up30 = below_more HasRow 30 up29 (λ a b c e. refl) in
    let up31 = below_more HasRow 31 up30 (λ a b c e. refl) in
    let up32 = below_more HasRow 32 up31 (λ a b c e. refl) in
    let up33 = below_more HasRow 33 up32 (λ a b c e. refl) in
    let up34 = below_more HasRow 34 up33 (λ a b c e. refl) in
    let up35 = below_more HasRow 35 up34 (λ a b c e. refl) in
    let up36 = below_more HasRow 36 up35 (λ a b c e. refl) in
    let up37 = below_more HasRow 37 up36 (λ a b c e. refl) in
    let up38 = below_more HasRow 38 up37 (λ a b c e. refl) in
    let up39 = below_more HasRow 39 up38 (λ a b c e. refl) in
    let up40 = below_more HasRow 40 up39 (λ a b c e. zero_c 40 a b c true e) in
    below_more HasRow 41 up40 (λ a b c e. zero_b 41 a b c true e)

-- an instruction has the row
pub row_again : (r : Row) → is_instr r ≡ true → row_of (instr_at r) ≡ r
row_again r e = each_op r.0 (last_op r.0 r.1 r.2 r.3 e) r.1 r.2 r.3 e

pub rows_exact : RowsAreExact
rows_exact r = (λ e. (instr_at r, row_again r e), λ h. ap is_instr (sym h.1) ∙ row_is_instr h.0)

pub one_instr : OneInstrPerRow
one_instr i j e = sym (instr_at-row_of i) ∙ ap instr_at e ∙ instr_at-row_of j
