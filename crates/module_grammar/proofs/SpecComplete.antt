-- Lists of specifications that are in the grammar, and not too deep, are read.
use Rattle.std.proofs.Common.{◌≡◌, ℕ, zero, suc, ◌≤◌, ◌<◌, List, [], ◌∷◌, length, Some, None, false, refl, ◌∙◌, arith}
use Rattle.mlc_names.specs.declared.token.Reserved.TheVariants as res
use Rattle.sml_tree.specs.Terminal.{LongId, Terminal, reserved, IsTycon, alpha_tycon, symbol_tycon, IsLongTycon, short_tycon, long_alpha_tycon, long_symbol_tycon}
use Rattle.sml_tree.specs.ReadTree.{Placed}
use Rattle.sml_grammar.specs.Answer.{read, many}
use Rattle.sml_grammar.specs.Terminals.{first_as, after_word, no_state}
use Rattle.sml_grammar.specs.Types.{read_ty, ty_could_go_on}
use Rattle.sml_grammar.specs.Bindings.{read_tyvars, put_more}
use Rattle.sml_grammar.proofs.Answers.{many-last, many-more}
use Rattle.sml_grammar.proofs.Terminals.{vid-found, tycon-found, long_tycon-found}
use Rattle.sml_grammar.proofs.BindTyvars.{tyvars-complete, begins-place, place-found, bound, bound-step}
use Rattle.sml_grammar.proofs.BindOf.{of-read}
use Rattle.sml_grammar.proofs.CompFacts.{ty-complete}
use Rattle.sml_grammar.proofs.TypeShapes.{ty-shorter}
use Rattle.sml_grammar.proofs.MaybeTypes.{of-shorter}
use Rattle.module_tree.specs.ReadModules.{TypeDesc, ConDesc, DataDesc, ValDesc, WhereType}
use Rattle.module_tree.specs.ModuleDepth.{depth_con_descs, depth_data_descs, depth_val_descs, depth_where_types}
use Rattle.module_tree.specs.ModuleGrammar.{module_id, ValDescs, last_val, more_vals, type_desc, TypeDescs, last_type, more_types, ConDescs, last_con, more_cons, data_desc, DataDescs, last_data, more_data, ExDescs, last_ex, more_exs, one_where, WhereTypes, last_where, more_wheres, SigIds, last_sig_id, more_sig_ids, LongTycons, last_tycon, more_tycons}
use Rattle.module_grammar.specs.Signatures.{as_module_id, val_desc_turn, type_desc_turn, con_desc_turn, read_con_descs, data_desc_turn, tycon_turn, and_type, where_turn, sig_id_turn}
use Rattle.module_grammar.proofs.Shorter.{type-shorter, one-data-shorter, where-shorter}

-- What specifications could go on with.
pub record SpecStops (o : List Terminal) : Type 0 where
  pub ty : ty_could_go_on 0 o ≡ false
  pub and_ : after_word res.And o ≡ None
  pub bar : after_word res.Bar o ≡ None
  pub of_ : after_word res.Of o ≡ None
  pub equals : after_word res.Equals o ≡ None
  pub where_ : after_word res.Where o ≡ None
  pub ids : first_as as_module_id o ≡ None

module _ (n : ℕ) where
  pub vals-complete : {i o : List Terminal} {vs : List ValDesc} → ValDescs i vs o → depth_val_descs vs ≤ n → ty_could_go_on 0 o ≡ false → after_word res.And o ≡ None
      → (k : ℕ) → length i < k → many (val_desc_turn n) k no_state i ≡ read vs o
  vals-complete d le y c zero lt = absurd (omega arith)
  vals-complete (last_val {t} {i} {o} {p} {x} {a} q v d) le y c (suc k) lt =
      let g = vid-found v (reserved q res.Colon ∷ i) in
      let h : read_ty n 0 i ≡ read a o = ty-complete n d (omega arith) y in
      many-last (val_desc_turn n) k (rw (g, h, c) refl)
  vals-complete (more_vals {t} {i} {m} {o} {p} {x} {a} {vs} q r v d ds) le y c (suc k) lt =
      let g = vid-found v (reserved q res.Colon ∷ i) in
      let h : read_ty n 0 i ≡ read a (reserved r res.And ∷ m) = ty-complete n d (omega arith) refl in
      let s = ty-shorter d in
      let z : many (val_desc_turn n) k no_state m ≡ read vs o = vals-complete ds (omega arith) y c k (omega arith) in
      many-more (val_desc_turn n) k {put = λ ws. record { place = p; vid = x; ty = a } ∷ ws} (rw (g, h) refl) z

pub tycon-tyvars : {t : Terminal} {q x : ℕ} → IsTycon t q x → (o : List Terminal) → read_tyvars (t ∷ o) ≡ read [] (t ∷ o)
tycon-tyvars (alpha_tycon p x) o = refl
tycon-tyvars (symbol_tycon p x) o = refl

pub types-complete : {i o : List Terminal} {ds : List TypeDesc} → TypeDescs i ds o → after_word res.And o ≡ None → (k : ℕ) → length i < k
    → many type_desc_turn k no_state i ≡ read ds o
types-complete d c zero lt = absurd (omega arith)
types-complete (last_type (type_desc {i} {o} {t} {as_} {p} {q} {x} b d v)) c (suc k) lt =
    let g : read_tyvars i ≡ read as_ (t ∷ o) = tyvars-complete d (tycon-tyvars v o) in
    let h = tycon-found v o in
    let at = begins-place b in
    many-last type_desc_turn k (rw (g, h, c, at) refl)
types-complete (more_types {m} {o} {ds} r (type_desc {i} {t} {as_} {p} {q} {x} b d v) more) c (suc k) lt =
    let g : read_tyvars i ≡ read as_ (t ∷ reserved r res.And ∷ m) = tyvars-complete d (tycon-tyvars v (reserved r res.And ∷ m)) in
    let h = tycon-found v (reserved r res.And ∷ m) in
    let at = begins-place b in
    let s = type-shorter (type_desc b d v) in
    let z : many type_desc_turn k no_state m ≡ read ds o = types-complete more c k (omega arith) in
    many-more type_desc_turn k {put = λ es. record { place = p; tyvars = as_; tycon = x } ∷ es} (rw (g, h, at) refl) z

module _ (n : ℕ) where
  pub cons-complete : {i o : List Terminal} {cs : List ConDesc} → ConDescs i cs o → depth_con_descs cs ≤ n → ty_could_go_on 0 o ≡ false
      → after_word res.Of o ≡ None → after_word res.Bar o ≡ None → (k : ℕ) → length i < k → many (con_desc_turn n res.Bar) k no_state i ≡ read cs o
  cons-complete d le y w c zero lt = absurd (omega arith)
  cons-complete (last_con {t} {m} {o} {p} {x} {s} v d) le y w c (suc k) lt =
      let g = vid-found v m in
      let h = of-read n d (omega arith) w y in
      many-last (con_desc_turn n res.Bar) k (rw (g, h, c) refl)
  cons-complete (more_cons {t} {m} {n = j} {o} {p} {x} {s} {cs} q v d ds) le y w c (suc k) lt =
      let g = vid-found v m in
      let h = of-read n d (omega arith) refl refl in
      let r = of-shorter d in
      let z : many (con_desc_turn n res.Bar) k no_state j ≡ read cs o = cons-complete ds (omega arith) y w c k (omega arith) in
      many-more (con_desc_turn n res.Bar) k {put = λ es. record { place = p; vid = x; of_ty = s } ∷ es} (rw (g, h) refl) z

  pub exs-complete : {i o : List Terminal} {cs : List ConDesc} → ExDescs i cs o → depth_con_descs cs ≤ n → ty_could_go_on 0 o ≡ false
      → after_word res.Of o ≡ None → after_word res.And o ≡ None → (k : ℕ) → length i < k → many (con_desc_turn n res.And) k no_state i ≡ read cs o
  exs-complete d le y w c zero lt = absurd (omega arith)
  exs-complete (last_ex {t} {m} {o} {p} {x} {s} v d) le y w c (suc k) lt =
      let g = vid-found v m in
      let h = of-read n d (omega arith) w y in
      many-last (con_desc_turn n res.And) k (rw (g, h, c) refl)
  exs-complete (more_exs {t} {m} {n = j} {o} {p} {x} {s} {cs} q v d ds) le y w c (suc k) lt =
      let g = vid-found v m in
      let h = of-read n d (omega arith) refl refl in
      let r = of-shorter d in
      let z : many (con_desc_turn n res.And) k no_state j ≡ read cs o = exs-complete ds (omega arith) y w c k (omega arith) in
      many-more (con_desc_turn n res.And) k {put = λ es. record { place = p; vid = x; of_ty = s } ∷ es} (rw (g, h) refl) z

  pub data-complete : {i o : List Terminal} {ds : List DataDesc} → DataDescs i ds o → depth_data_descs ds ≤ n → SpecStops o → (k : ℕ) → length i < k
      → many (data_desc_turn n) k no_state i ≡ read ds o
  data-complete d le st zero lt = absurd (omega arith)
  data-complete (last_data (data_desc {i} {m} {o} {t} {as_} {p} {q} {x} {cs} r b d v ds)) le st (suc k) lt =
      let h : read_con_descs n res.Bar m ≡ read cs o = cons-complete ds (omega arith) st.ty st.of_ st.bar (suc (length m)) (omega arith) in
      let c = st.and_ in
      let at = begins-place b in
      many-last (data_desc_turn n) k (bound-step _ (bound r d v) ∙ rw (h, c, at) refl)
  data-complete (more_data {m = j} {o} {ds = rest} u (data_desc {i} {m} {t} {as_} {p} {q} {x} {cs} r b d v ds) more) le st (suc k) lt =
      let h : read_con_descs n res.Bar m ≡ read cs (reserved u res.And ∷ j) = cons-complete ds (omega arith) refl refl refl (suc (length m)) (omega arith) in
      let at = begins-place b in
      let s = one-data-shorter (data_desc r b d v ds) in
      let z : many (data_desc_turn n) k no_state j ≡ read rest o = data-complete more (omega arith) st k (omega arith) in
      many-more (data_desc_turn n) k {put = λ es. record { place = p; tyvars = as_; tycon = x; cons = cs } ∷ es} (bound-step _ (bound r d v) ∙ rw (h, at) refl) z

pub tycons-complete : {i o : List Terminal} {cs : List (Placed LongId)} → LongTycons i cs o → after_word res.Equals o ≡ None → (k : ℕ) → length i < k
    → many tycon_turn k no_state i ≡ read cs o
tycons-complete d c zero lt = absurd (omega arith)
tycons-complete (last_tycon {t} {o} {p} {c = x} v) c (suc k) lt = let g = long_tycon-found v o in many-last tycon_turn k (rw (g, c) refl)
tycons-complete (more_tycons {t} {i} {o} {p} {c = x} {cs} q v ds) c (suc k) lt =
    let g = long_tycon-found v (reserved q res.Equals ∷ i) in
    let z : many tycon_turn k no_state i ≡ read cs o = tycons-complete ds c k (omega arith) in
    many-more tycon_turn k {put = λ es. record { place = p; it = x } ∷ es} (rw g refl) z

-- what a list of `where type` could go on with
pub record WhereStops (o : List Terminal) : Type 0 where
  pub ty : ty_could_go_on 0 o ≡ false
  pub and_ : and_type (after_word res.And o) ≡ None

pub long-tyvars : {t : Terminal} {q : ℕ} {c : LongId} → IsLongTycon t q c → (o : List Terminal) → read_tyvars (t ∷ o) ≡ read [] (t ∷ o)
long-tyvars (short_tycon (alpha_tycon p x)) o = refl
long-tyvars (short_tycon (symbol_tycon p x)) o = refl
long-tyvars (long_alpha_tycon p qs x) o = refl
long-tyvars (long_symbol_tycon p qs x) o = refl

-- a list of them begins with `type`
wheres-begin : {i o : List Terminal} {ws : List WhereType} → WhereTypes i ws o → and_type (Some i) ≡ Some i
wheres-begin (last_where (one_where p r d s c t)) = refl
wheres-begin (more_wheres q (one_where p r d s c t) ws) = refl

module _ (n : ℕ) where
  pub wheres-complete : {i o : List Terminal} {ws : List WhereType} → WhereTypes i ws o → depth_where_types ws ≤ n → WhereStops o → (k : ℕ) → length i < k
      → many (where_turn n) k no_state i ≡ read ws o
  wheres-complete d le st zero lt = absurd (omega arith)
  wheres-complete (last_where (one_where {i} {m} {o} {t} {as_} {q} {u = w} {c} {a} p r d b v y)) le st (suc k) lt =
      let g : read_tyvars i ≡ read as_ (t ∷ reserved r res.Equals ∷ m) = tyvars-complete d (long-tyvars v (reserved r res.Equals ∷ m)) in
      let h = long_tycon-found v (reserved r res.Equals ∷ m) in
      let at = place-found b in
      let u : read_ty n 0 m ≡ read a o = ty-complete n y (omega arith) st.ty in
      let e = st.and_ in
      many-last (where_turn n) k (rw (g, h, at, u, e) refl)
  wheres-complete (more_wheres {m = j} {o} {ws} x (one_where {i} {m} {t} {as_} {q} {u = w} {c} {a} p r d b v y) more) le st (suc k) lt =
      let g : read_tyvars i ≡ read as_ (t ∷ reserved r res.Equals ∷ m) = tyvars-complete d (long-tyvars v (reserved r res.Equals ∷ m)) in
      let h = long_tycon-found v (reserved r res.Equals ∷ m) in
      let at = place-found b in
      let u : read_ty n 0 m ≡ read a (reserved x res.And ∷ j) = ty-complete n y (omega arith) refl in
      let e = wheres-begin more in
      let s = where-shorter (one_where p r d b v y) in
      let z : many (where_turn n) k no_state j ≡ read ws o = wheres-complete more (omega arith) st k (omega arith) in
      many-more (where_turn n) k {put = λ es. record { place = p; tyvars_place = w; tyvars = as_; tycon = record { place = q; it = c }; ty = a } ∷ es} (rw (g, h, at, u, e) refl) z

ids-begin : {i o : List Terminal} {xs : List (Placed ℕ)} → SigIds i xs o → put_more (first_as as_module_id i) i ≡ Some i
ids-begin (last_sig_id (module_id p x)) = refl
ids-begin (more_sig_ids (module_id p x) d) = refl

pub ids-complete : {i o : List Terminal} {xs : List (Placed ℕ)} → SigIds i xs o → first_as as_module_id o ≡ None → (k : ℕ) → length i < k
    → many sig_id_turn k no_state i ≡ read xs o
ids-complete d c zero lt = absurd (omega arith)
ids-complete (last_sig_id {o} (module_id p x)) c (suc k) lt = many-last sig_id_turn k (rw c refl)
ids-complete (more_sig_ids {i} {o} {xs} (module_id p x) d) c (suc k) lt =
    let e = ids-begin d in
    let z : many sig_id_turn k no_state i ≡ read xs o = ids-complete d c k (omega arith) in
    many-more sig_id_turn k {put = λ es. record { place = p; it = x } ∷ es} (rw e refl) z
