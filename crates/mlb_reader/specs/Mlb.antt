-- ML Basis files: so far lists of bare paths, parted by white space. [ML Basis, Syntax]
use Rattle.std.specs.Prelude.{◌≡◌, ◌≢◌, ℕ, ◌+◌, Bool, true, false, ◌&&◌, ◌||◌, nat_le, nat_eq, ◌==◌, List, [], ◌∷◌, ◌++◌, length, codes}
use Rattle.std.specs.List.{list_all, list_any, ends_with}
use Rattle.std.specs.Str.{bytes_eq}

-- a path, and the byte of the file at which it begins
pub record Item : Type 0 where
  pub byte : ℕ
  pub word : List ℕ

-- space, tab, newline, carriage return, form feed
abbrev pub is_blank : ℕ → Bool
is_blank b = b == 32 || (b == 9 || (b == 10 || (b == 13 || b == 12)))

abbrev pub is_letter_or_digit : ℕ → Bool
is_letter_or_digit b = (nat_le 48 b && nat_le b 57) || ((nat_le 65 b && nat_le b 90) || (nat_le 97 b && nat_le b 122))

-- a byte of a bare word: letters, digits and . _ - / $ ( )
abbrev pub is_path_byte : ℕ → Bool
is_path_byte b = is_letter_or_digit b || (b == 46 || (b == 95 || (b == 45 || (b == 47 || (b == 36 || (b == 40 || b == 41))))))

-- the reserved words of ML Basis files are no paths
abbrev pub reserved : List (List ℕ)
reserved = codes "ann" ∷ codes "and" ∷ codes "bas" ∷ codes "basis" ∷ codes "end" ∷ codes "functor" ∷ codes "in" ∷ codes "let" ∷ codes "local" ∷ codes "open"
    ∷ codes "signature" ∷ codes "structure" ∷ []

abbrev pub is_reserved : List ℕ → Bool
is_reserved word = list_any (bytes_eq word) reserved

pub record IsPath (word : List ℕ) : Type 0 where
  pub some : word ≢ []
  pub bare : list_all is_path_byte word ≡ true
  pub free : is_reserved word ≡ false

-- nothing, or white space
abbrev pub is_parted : List ℕ → Bool
is_parted [] = true
is_parted (b ∷ i) = is_blank b

-- the paths in the bytes from this one on
pub data Reads : ℕ → List ℕ → List Item → Type 0 where
  no_more : (at : ℕ) → Reads at [] []
  a_blank : (at b : ℕ) {i : List ℕ} {items : List Item} → is_blank b ≡ true → Reads (at + 1) i items → Reads at (b ∷ i) items
  a_path : (at : ℕ) (word : List ℕ) {i : List ℕ} {items : List Item} → IsPath word → is_parted i ≡ true → Reads (at + length word) i items →
      Reads at (word ++ i) (record { byte = at; word = word } ∷ items)

-- the bytes of an ML Basis file are these paths
abbrev pub IsMlb : List ℕ → List Item → Type 0
IsMlb bytes items = Reads 0 bytes items

-- the path of the standard basis
abbrev pub basis_path : List ℕ
basis_path = codes "$(SML_LIB)/basis/basis.mlb"

abbrev pub has_variable : List ℕ → Bool
has_variable word = list_any (λ b. b == 36) word

-- the extensions of sources
abbrev pub is_source : List ℕ → Bool
is_source word = ends_with nat_eq word (codes ".sml")
    || (ends_with nat_eq word (codes ".sig") || (ends_with nat_eq word (codes ".fun") || ends_with nat_eq word (codes ".ML")))
