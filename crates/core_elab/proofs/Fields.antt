-- A field that is put in its place in a record stands among the others, past none of its own label.
use Rattle.std.proofs.Common.{◌≡◌, ℕ, Bool, true, false, cond, nat_eq, nat_lt, refl, arith}
use Rattle.mlc_names.specs.declared.label.Label.{Label}
use Rattle.mlc_names.specs.declared.label.Label.TheVariants.{Number, Word}
use Rattle.label_rows.specs.Order.{label_before}
use Rattle.ir_poly.specs.of_ir_values.Values.{same_label}
use Rattle.ir_poly.specs.of_ir_values.Values as made
use Rattle.ir_poly.specs.ProgMeaning.{V, Parts, put_part}
use Rattle.core_elab.proofs.Related.{Among, among_here, among_past}

less-differs : (m n : ℕ) → nat_lt m n ≡ true → nat_eq n m ≡ false
less-differs m n h = grind (arith, h)

before-differs : (k l : Label) → label_before k l ≡ true → same_label l k ≡ false
before-differs (Number m) (Number n) h = less-differs m n h
before-differs (Number m) (Word y) h = refl
before-differs (Word x) (Number n) h = refl
before-differs (Word x) (Word y) h = less-differs x y h

pub put-among : (l : Label) (z : V) (zs : Parts) → Among l z zs (put_part l z zs)
put-among l z made.no_fields = among_here
put-among l z (made.field k x zs) = by (label_before k l) refl (put-among l z zs)
  where
    by : (b : Bool) → label_before k l ≡ b → Among l z zs (put_part l z zs)
        → Among l z (made.field k x zs) (cond b (made.field k x (put_part l z zs)) (made.field l z (made.field k x zs)))
    by true h a = among_past k x (before-differs k l h) a
    by false h a = among_here
