-- Symbols and types as lists of numbers.
use Rattle.std.specs.Prelude.{◌≡◌, ℕ, zero, suc, List, [], ◌∷◌, ◌++◌, take, drop, refl}
use Rattle.std.proofs.Common.{ap, ap₂, ◌∙◌}
use Rattle.std.specs.Coded.{Coded, code_by, coded×, coded_ℕ, coded_list}
use Rattle.ty_core.specs.of_mlc_names.declared.label.Label.{Label}
use Rattle.ty_core.specs.of_mlc_names.declared.label.Label.TheVariants.{Number, Word}
use Rattle.ty_core.specs.Types.{Symbol, arrow, labels, name, Typ, var, con, Typs, none, more, typs_of}
use Rattle.ty_core.specs.declared.name.Equality.{Equality}
use Rattle.ty_core.specs.declared.name.Equality.TheVariants.{Always, ByArguments, Never}

abbrev pub label_code : Label → List ℕ
label_code (Number n) = 0 ∷ n ∷ []
label_code (Word x) = 1 ∷ x ∷ []

abbrev pub labels_code : List Label → List ℕ
labels_code [] = []
labels_code (l ∷ ls) = label_code l ++ labels_code ls

abbrev pub attribute_code : Equality → ℕ
attribute_code Always = 0
attribute_code ByArguments = 1
attribute_code Never = 2

-- the kind of symbol first
abbrev pub code_of : Symbol → List ℕ
code_of arrow = 0 ∷ []
code_of (name n) = 1 ∷ n.stamp ∷ n.arity ∷ attribute_code n.equality ∷ []
code_of (labels ls) = 2 ∷ labels_code ls

abbrev labels_in : List ℕ → List Label
labels_in [] = []
labels_in (k ∷ []) = []
labels_in (zero ∷ n ∷ l) = Number n ∷ labels_in l
labels_in (suc k ∷ n ∷ l) = Word n ∷ labels_in l

abbrev attribute_in : ℕ → Equality
attribute_in zero = Always
attribute_in (suc zero) = ByArguments
attribute_in (suc (suc k)) = Never

abbrev name_in : List ℕ → Symbol
name_in [] = arrow
name_in (n ∷ []) = arrow
name_in (n ∷ k ∷ []) = arrow
name_in (n ∷ k ∷ e ∷ l) = name (record { stamp = n; arity = k; equality = attribute_in e })

-- the symbol of a code
abbrev pub symbol_in : List ℕ → Symbol
symbol_in [] = arrow
symbol_in (zero ∷ l) = arrow
symbol_in (suc zero ∷ l) = name_in l
symbol_in (suc (suc k) ∷ l) = labels (labels_in l)

labels_in-code : (ls : List Label) → labels_in (labels_code ls) ≡ ls
labels_in-code [] = refl
labels_in-code (Number n ∷ ls) = ap (λ l. Number n ∷ l) (labels_in-code ls)
labels_in-code (Word x ∷ ls) = ap (λ l. Word x ∷ l) (labels_in-code ls)

attribute_in-code : (e : Equality) → attribute_in (attribute_code e) ≡ e
attribute_in-code Always = refl
attribute_in-code ByArguments = refl
attribute_in-code Never = refl

pub symbol_in-code : (s : Symbol) → symbol_in (code_of s) ≡ s
symbol_in-code arrow = refl
symbol_in-code (name n) = ap (λ e. name (record { stamp = n.stamp; arity = n.arity; equality = e })) (attribute_in-code n.equality)
symbol_in-code (labels ls) = ap labels (labels_in-code ls)

abbrev count : Typs → ℕ
count none = 0
count (more t ts) = suc (count ts)

-- a type's nodes in front of others: 0 and a variable, or one more than the number of parts and a symbol's code
abbrev mutual
  node_codes : Typ → List (ℕ × List ℕ) → List (ℕ × List ℕ)
  node_codes (var v) l = (0, v ∷ []) ∷ l
  node_codes (con h ts) l = (suc (count ts), code_of h) ∷ all_node_codes ts l

  all_node_codes : Typs → List (ℕ × List ℕ) → List (ℕ × List ℕ)
  all_node_codes none l = l
  all_node_codes (more t ts) l = node_codes t (all_node_codes ts l)

abbrev first_number : List ℕ → ℕ
first_number [] = 0
first_number (k ∷ l) = k

abbrev with_node : ℕ → List ℕ → List Typ → List Typ
with_node zero l ts = var (first_number l) ∷ ts
with_node (suc n) l ts = con (symbol_in l) (typs_of (take n ts)) ∷ drop n ts

abbrev types_in : List (ℕ × List ℕ) → List Typ
types_in [] = []
types_in (x ∷ l) = with_node x.0 x.1 (types_in l)

abbrev listed : Typs → List Typ → List Typ
listed none l = l
listed (more t ts) l = t ∷ listed ts l

first_listed : (ts : Typs) (l : List Typ) → typs_of (take (count ts) (listed ts l)) ≡ ts
first_listed none [] = refl
first_listed none (t ∷ l) = refl
first_listed (more t ts) l = ap (more t) (first_listed ts l)

rest_listed : (ts : Typs) (l : List Typ) → drop (count ts) (listed ts l) ≡ l
rest_listed none l = refl
rest_listed (more t ts) l = rest_listed ts l

mutual
  types_in-codes : (t : Typ) (l : List (ℕ × List ℕ)) → types_in (node_codes t l) ≡ t ∷ types_in l
  types_in-codes (var v) l = refl
  types_in-codes (con h ts) l =
      ap (λ us. con (symbol_in (code_of h)) (typs_of (take (count ts) us)) ∷ drop (count ts) us) (types_in-all ts l)
      ∙ ap₂ (λ g us. con g us ∷ drop (count ts) (listed ts (types_in l))) (symbol_in-code h) (first_listed ts (types_in l))
      ∙ ap (λ us. con h ts ∷ us) (rest_listed ts (types_in l))

  types_in-all : (ts : Typs) (l : List (ℕ × List ℕ)) → types_in (all_node_codes ts l) ≡ listed ts (types_in l)
  types_in-all none l = refl
  types_in-all (more t ts) l = types_in-codes t (all_node_codes ts l) ∙ ap (λ us. t ∷ us) (types_in-all ts l)

abbrev list_codes : List Typ → List (ℕ × List ℕ)
list_codes [] = []
list_codes (t ∷ ts) = node_codes t (list_codes ts)

pub types_in-list : (ts : List Typ) → types_in (list_codes ts) ≡ ts
types_in-list [] = refl
types_in-list (t ∷ ts) = types_in-codes t (list_codes ts) ∙ ap (λ us. t ∷ us) (types_in-list ts)

-- a list of types is stored as the list of their nodes
abbrev pub types_code : Coded (List Typ)
types_code = code_by (List (ℕ × List ℕ)) (coded_list (coded× coded_ℕ (coded_list coded_ℕ))) list_codes types_in types_in-list
