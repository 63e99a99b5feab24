-- Strings that are found by hash.
use Rattle.std.proofs.Common.{◌≡◌, ℕ, Bool, true, false, List, if◌then◌else◌, Some, refl, sym, ap, ◌∙◌}
use Rattle.std.specs.Str.{bytes_eq}
use Rattle.std.specs.Map.{lookup, IsKeyTest, AreApart, KeepsOthers}
use Rattle.std.specs.Cmp.Lexicographic.{bytes_decides, nat_list_eq_equiv}
use Rattle.closure_parts.specs.Indexed.{Kept, is_text}

apart : (bs cs ks : List ℕ) → bytes_eq bs cs ≡ false → bytes_eq bs ks ≡ true → bytes_eq cs ks ≡ false
apart bs cs ks n y = nat_list_eq_equiv.symm cs ks ∙ sym (nat_list_eq_equiv.congr bs ks cs y) ∙ n

others : (eq : Kept → Kept → Bool) (test : Kept → Bool) (old new : List (Kept × ℕ)) → KeepsOthers eq test old new → (other : Kept → Bool) → IsKeyTest eq other → AreApart test other → lookup other new ≡ lookup other old
unfolding KeepsOthers
others eq test old new h = h

-- what is entered is found by its text, and all else as before
pub texts-updated : (old new : List (Kept × ℕ)) (k : Kept) (i : ℕ) → lookup (is_text k.items) new ≡ Some i → KeepsOthers (λ a b. bytes_eq a.items b.items) (is_text k.items) old new
    → (s : List ℕ) → lookup (is_text s) new ≡ (if bytes_eq s k.items then Some i else lookup (is_text s) old)
texts-updated old new k i here rest s = by (bytes_eq s k.items) refl
  where
    by : (b : Bool) → bytes_eq s k.items ≡ b → lookup (is_text s) new ≡ (if b then Some i else lookup (is_text s) old)
    by true e = ap (λ l. lookup (is_text l) new) ((bytes_decides s k.items).0 e) ∙ here
    by false e =
        others (λ a b. bytes_eq a.items b.items) (is_text k.items) old new rest (is_text s) (λ x y. nat_list_eq_equiv.congr s x.items y.items)
        (λ v. apart k.items s v.items (nat_list_eq_equiv.symm k.items s ∙ e))
