-- Places and names of expressions and declarations that were read.
use Rattle.std.proofs.Common.{ℕ, List, ◌∷◌, Bool, true, false, map, if◌then◌else◌}
use Rattle.std.specs.List.{AllByRecursion}
use Rattle.mlc_base.specs.declared.place.Place.{Place}
use Rattle.sml_tree.specs.declared.ident.Vid.{Vid}
use Rattle.sml_tree.specs.Terminal.{Terminal}
use Rattle.sml_tree.specs.Fixity.{Fixity}
use Rattle.sml_tree.specs.BareTree as bare
use Rattle.sml_tree.specs.Derived.{join}
use Rattle.sml_tree.specs.Bare.{at, bare_some, joint_of, is_directive, bare_exp, bare_sequence, exp_list, bare_exp_fields, bare_rules, operands, bare_decs, bare_dec, bare_type_bind, bare_data_bind, plain_binds, recursive_binds, all_binds, functions, clause_list, clauses_place, clauses_vid, clauses_vid_place}
use Rattle.sml_tree.specs.ReadTree.{Joint, Exp, Exps, no_exps, exp, ExpFields, Parts, Rules, Decs, Dec, Binds, Funs, Clauses, exp_place}
use Rattle.sml_tree.specs.Grammar.{IsJoint, is_andalso, is_orelse, is_infix, is_infix_equals, Atom, of_constant, of_vid, of_equals, of_no_row, of_row, of_selector, of_unit, of_tuple, of_nil, of_list, of_sequence, of_paren, of_let, ExpRow, last_exp_row, more_exp_row, Commas, last_exp, more_exps, Semicolons, last_of_sequence, more_of_sequence, Atoms, no_atoms, more_atoms, Reads, of_atom, of_app, of_chain, of_typed, of_handle, of_raise, of_if, of_while, of_case, of_fn, Follows, of_last_part, of_part, Match, of_last_rule, of_rule, Declares, nothing_more, of_semicolon, of_dec, Declare, of_val, of_fun, of_type, of_datatype, of_withtype, of_replication, of_exception, of_local, of_open, of_infix, of_infixr, of_nonfix, ReadsBinds, of_last_bind, of_bind, of_rec, ReadsFuns, of_last_fun, of_fun_and, ReadsClauses, of_last_clause, of_clause}
use Rattle.mlb_reader.specs.Within.{ExpIn, ExpFieldsIn, RulesIn, DecsIn, DecIn, BindsIn}
use Rattle.mlb_reader.proofs.WithinTerminals.{IsGood, AllGood, IsGoodVid, vid-good, constant-place, names-good}
use Rattle.mlb_reader.proofs.WithinRests.{ty-rest, maybe_ty-rest, tyvars-rest, directive-rest, precedence-rest}
use Rattle.mlb_reader.proofs.WithinForms.{AreExps, JointIn, ClauseIn, FunctionIn, tuple-in, app_of-in, select-in, case-in, if-in, join-in, sequence-in, while-in, list-in, with_result-in, function_binds-in}
use Rattle.mlb_reader.proofs.WithinChains.{IsGoodOperand, chain-good}
use Rattle.mlb_reader.proofs.WithinBinds.{long_tycon-place, tyvars-place, type_binds-good, data_binds-good, ex_binds-good, strids-good, datas-expanded}
use Rattle.mlb_reader.proofs.WithinPatterns.{pat-good, head-good}

module _ (file : ℕ) (P : Place → Type 0) (N : ℕ → Type 0) where
  abbrev Good : List Terminal → Type 0
  Good = AllGood file P N

  abbrev AreGoodExps : Exps → Type 0
  AreGoodExps es = AreExps P N (exp_list file es)

  abbrev AreGoodParts : Parts → Type 0
  AreGoodParts ps = AllByRecursion (IsGoodOperand P (JointIn P N) (ExpIn P N)) (operands file ps)

  pub record ExpGood (e : Exp) (o : List Terminal) : Type 0 where
    pub place : P (at file (exp_place e))
    pub within : ExpIn P N (bare_exp file e)
    pub rest : AllGood file P N o

  pub record DecsGood (ds : Decs) (o : List Terminal) : Type 0 where
    pub within : DecsIn P N (bare_decs file ds)
    pub rest : AllGood file P N o

  pub record DecGood (d : Dec) (o : List Terminal) : Type 0 where
    pub within : DecIn P N (bare_dec file d)
    pub rest : AllGood file P N o

  record BindsGood (bs : Binds) (o : List Terminal) : Type 0 where
    plain : BindsIn P N (plain_binds file bs)
    recursive : BindsIn P N (recursive_binds file bs)
    all : BindsIn P N (all_binds file bs)
    rest : AllGood file P N o

  record ClausesGood (cs : Clauses) (o : List Terminal) : Type 0 where
    place : P (at file (clauses_place cs))
    own : IsGoodVid file P N (clauses_vid_place cs) (clauses_vid cs)
    clauses : AllByRecursion (ClauseIn P N) (clause_list file cs)
    rest : AllGood file P N o

  joint-good : {f : Fixity} {t : Terminal} {j : Joint} → IsJoint f t j → IsGood file P N t → JointIn P N (joint_of file j)
  joint-good (is_andalso p) g = tt
  joint-good (is_orelse p) g = tt
  joint-good (is_infix v e) g = vid-good file P N v g
  joint-good (is_infix_equals p e) g = (g.0, tt)

  -- (e1; ..; en) at the place p
  sequence-good : (p : ℕ) (es : Exps) → P (at file p) → AreGoodExps es → ExpIn P N (bare_sequence file p es)
  sequence-good p no_exps h gs = (h, tt)
  sequence-good p (exp e es) h gs = sequence-in P N (at file p) (bare_exp file e) (exp_list file es) h gs.0 gs.1

  -- a declaration that may be a directive, before others
  decs-good : (t : Bool) (d : bare.Dec) (ds : bare.Decs) → DecIn P N d → DecsIn P N ds → DecsIn P N (if t then ds else bare.dec d ds)
  decs-good true d ds g gs = gs
  decs-good false d ds g gs = (g, gs)

  mutual
    atom-good : {f : Fixity} {i o : List Terminal} {e : Exp} → Atom f i e o → Good i → ExpGood e o
    atom-good (of_constant d) g = let h = constant-place file P N d g.0 in record { place = h; within = h; rest = g.1 }
    atom-good (of_vid x) g = let h = names-good file P N x g in record { place = h.place; within = h.own; rest = h.rest }
    atom-good (of_equals p e) g = record { place = g.0.0; within = (g.0.0, tt); rest = g.1 }
    atom-good (of_no_row p q) g = record { place = g.0.0; within = (g.0.0, tt); rest = g.1.1 }
    atom-good (of_row p q d) g = let h = row-good d g.1 in record { place = g.0.0; within = (g.0.0, h.0); rest = h.1.1 }
    atom-good (of_selector {l} p d) g = record { place = g.0.0; within = select-in P N (at file p) l g.0.0; rest = g.1.1 }
    atom-good (of_unit p q) g = record { place = g.0.0; within = (g.0.0, tt); rest = g.1.1 }
    atom-good (of_tuple {e} {es} p q r d ds) g =
        let h = exp-good d g.1 in
        let k = commas-good ds h.rest.1 in
        record { place = g.0.0; within = tuple-in P N (at file p) (bare_exp file e ∷ exp_list file es) g.0.0 (h.within, k.0); rest = k.1.1 }
    atom-good (of_nil p q) g = record { place = g.0.0; within = g.0.0; rest = g.1.1 }
    atom-good (of_list {es} p q ds) g = let k = commas-good ds g.1 in record { place = g.0.0; within = list-in P N (at file p) (exp_list file es) g.0.0 k.0; rest = k.1.1 }
    atom-good (of_sequence {e} {es} p q r d ds) g =
        let h = exp-good d g.1 in
        let k = semicolons-good ds h.rest.1 in
        record { place = g.0.0; within = sequence-in P N (at file p) (bare_exp file e) (exp_list file es) g.0.0 h.within k.0; rest = k.1.1 }
    atom-good (of_paren p q d) g = let h = exp-good d g.1 in record { place = g.0.0; within = h.within; rest = h.rest.1 }
    atom-good (of_let {es} p q r dd ds) g =
        let h = decs-read dd g.1 in
        let k = semicolons-good ds h.rest.1 in
        record { place = g.0.0; within = (g.0.0, h.within, sequence-good p es g.0.0 k.0); rest = k.1.1 }

    row-good : {f : Fixity} {i o : List Terminal} {fs : ExpFields} → ExpRow f i fs o → Good i → ExpFieldsIn P N (bare_exp_fields file fs) × Good o
    row-good (last_exp_row p l d) g = let h = exp-good d g.1.1 in ((h.within, tt), h.rest)
    row-good (more_exp_row p q l d ds) g = let h = exp-good d g.1.1 in let k = row-good ds h.rest.1 in ((h.within, k.0), k.1)

    commas-good : {f : Fixity} {i o : List Terminal} {es : Exps} → Commas f i es o → Good i → AreGoodExps es × Good o
    commas-good (last_exp d) g = let h = exp-good d g in ((h.within, tt), h.rest)
    commas-good (more_exps p d ds) g = let h = exp-good d g in let k = commas-good ds h.rest.1 in ((h.within, k.0), k.1)

    semicolons-good : {f : Fixity} {i o : List Terminal} {es : Exps} → Semicolons f i es o → Good i → AreGoodExps es × Good o
    semicolons-good (last_of_sequence d) g = let h = exp-good d g in ((h.within, tt), h.rest)
    semicolons-good (more_of_sequence p d ds) g = let h = exp-good d g in let k = semicolons-good ds h.rest.1 in ((h.within, k.0), k.1)

    atoms-good : {f : Fixity} {i o : List Terminal} {es : Exps} → Atoms f i es o → Good i → AreGoodExps es × Good o
    atoms-good no_atoms g = (tt, g)
    atoms-good (more_atoms a as_) g = let h = atom-good a g in let k = atoms-good as_ h.rest in ((h.within, k.0), k.1)

    pub exp-good : {f : Fixity} {i o : List Terminal} {e : Exp} → Reads f i e o → AllGood file P N i → ExpGood e o
    exp-good (of_atom a) g = atom-good a g
    exp-good (of_app {e} {a} {es} b c cs) g =
        let h = atom-good b g in
        let k = atom-good c h.rest in
        let m = atoms-good cs k.rest in
        record { place = h.place; within = app_of-in P N (at file (exp_place e)) (bare_exp file e) (bare_exp file a ∷ exp_list file es) h.place h.within (k.within, m.0); rest = m.1 }
    exp-good (of_chain {a} {ps} l r lt e d fs) g =
        let h = exp-good d g in
        let k = follows-good fs h.rest in
        record { place = h.place; within = chain-good P (JointIn P N) (ExpIn P N) join (join-in P N) r (at file (exp_place a)) (bare_exp file a) (operands file ps) h.place h.within k.0; rest = k.1 }
    exp-good (of_typed p five e d t) g = let h = exp-good d g in record { place = h.place; within = (h.place, h.within); rest = ty-rest _ t h.rest.1 }
    exp-good (of_handle p e d m) g = let h = exp-good d g in let k = match-good m h.rest.1 in record { place = h.place; within = (h.place, h.within, k.0); rest = k.1 }
    exp-good (of_raise p d) g = let h = exp-good d g.1 in record { place = g.0.0; within = (g.0.0, h.within); rest = h.rest }
    exp-good (of_if {a = x} {b = y} {c = z} p q r a b c) g =
        let h = exp-good a g.1 in
        let k = exp-good b h.rest.1 in
        let m = exp-good c k.rest.1 in
        record { place = g.0.0; within = if-in P N (at file p) (bare_exp file x) (bare_exp file y) (bare_exp file z) g.0.0 h.within k.within m.within; rest = m.rest }
    exp-good (of_while {a = x} {b = y} p q a b) g =
        let h = exp-good a g.1 in
        let k = exp-good b h.rest.1 in
        record { place = g.0.0; within = while-in P N (at file p) (bare_exp file x) (bare_exp file y) g.0.0 h.within k.within; rest = k.rest }
    exp-good (of_case {e} {rs} p q d m) g =
        let h = exp-good d g.1 in
        let k = match-good m h.rest.1 in
        record { place = g.0.0; within = case-in P N (at file p) (bare_exp file e) (bare_rules file rs) g.0.0 h.within k.0; rest = k.1 }
    exp-good (of_fn p m) g = let k = match-good m g.1 in record { place = g.0.0; within = (g.0.0, k.0); rest = k.1 }

    follows-good : {f : Fixity} {l : ℕ} {r : Bool} {i o : List Terminal} {ps : Parts} → Follows f l r i ps o → Good i → AreGoodParts ps × Good o
    follows-good (of_last_part fit lt d) g = let h = exp-good d g.1 in (((h.place, joint-good fit.is g.0, h.within), tt), h.rest)
    follows-good (of_part fit lt e d fs) g = let h = exp-good d g.1 in let k = follows-good fs h.rest in (((h.place, joint-good fit.is g.0, h.within), k.0), k.1)

    match-good : {f : Fixity} {i o : List Terminal} {rs : Rules} → Match f i rs o → Good i → RulesIn P N (bare_rules file rs) × Good o
    match-good (of_last_rule p a d) g = let h = pat-good file P N a g in let k = exp-good d h.rest.1 in ((h.place, h.within, k.within, tt), k.rest)
    match-good (of_rule p q a e d m) g =
        let h = pat-good file P N a g in
        let k = exp-good d h.rest.1 in
        let n = match-good m k.rest.1 in
        ((h.place, h.within, k.within, n.0), n.1)

    decs-read : {f : Fixity} {i o : List Terminal} {ds : Decs} → Declares f i ds o → AllGood file P N i → DecsGood ds o
    decs-read nothing_more g = record { within = tt; rest = g }
    decs-read (of_semicolon p d) g = let h = decs-read d g.1 in record { within = h.within; rest = h.rest }
    decs-read (of_dec {d} {ds} a as_) g =
        let h = dec-read a g in
        let k = decs-read as_ h.rest in
        record { within = decs-good (is_directive d) (bare_dec file d) (bare_decs file ds) h.within k.within; rest = k.rest }

    pub dec-read : {f : Fixity} {i o : List Terminal} {d : Dec} → Declare f i d o → AllGood file P N i → DecGood d o
    dec-read (of_val p vs at_ d) g =
        let h = binds-read d (tyvars-rest _ vs g.1) in
        record { within = (g.0.0, tyvars-place file P N at_ g.0.0 g.1, h.plain, h.recursive); rest = h.rest }
    dec-read (of_fun {fs} p vs at_ d) g =
        let h = funs-good d (tyvars-rest _ vs g.1) in
        record { within = (g.0.0, tyvars-place file P N at_ g.0.0 g.1, tt, function_binds-in P N (functions file fs) h.0); rest = h.1 }
    dec-read (of_type p d) g = let h = type_binds-good file P N d g.1 in record { within = (g.0.0, h.0); rest = h.1 }
    dec-read (of_datatype p d) g = let h = data_binds-good file P N d g.1 in record { within = (g.0.0, h.0); rest = h.1 }
    dec-read (of_withtype {bs} {cs} p q d e) g =
        let h = data_binds-good file P N d g.1 in
        let k = type_binds-good file P N e h.1.1 in
        let datas = datas-expanded file P N (map (bare_type_bind file) cs) (map (bare_data_bind file) bs) h.0 in
        record { within = (g.0.0, ((g.0.0, datas), ((g.0.0, k.0), tt))); rest = k.1 }
    dec-read (of_replication p q r t c) g = record { within = (g.0.0, long_tycon-place file P N c g.1.1.1.1.0); rest = g.1.1.1.1.1 }
    dec-read (of_exception p d) g = let h = ex_binds-good file P N d g.1 in record { within = (g.0.0, h.0); rest = h.1 }
    dec-read (of_local p q r d e) g =
        let h = decs-read d g.1 in
        let k = decs-read e h.rest.1 in
        record { within = (g.0.0, h.within, k.within); rest = k.rest.1 }
    dec-read (of_open p d) g = let h = strids-good file P N d g.1 in record { within = (g.0.0, h.0); rest = h.1 }
    dec-read (of_infix p n d) g = record { within = (g.0.0, tt); rest = directive-rest _ d (precedence-rest _ n g.1) }
    dec-read (of_infixr p n d) g = record { within = (g.0.0, tt); rest = directive-rest _ d (precedence-rest _ n g.1) }
    dec-read (of_nonfix p d) g = record { within = (g.0.0, tt); rest = directive-rest _ d g.1 }

    binds-read : {f : Fixity} {i o : List Terminal} {bs : Binds} → ReadsBinds f i bs o → Good i → BindsGood bs o
    binds-read (of_last_bind p c d) g =
        let h = pat-good file P N c g in
        let k = exp-good d h.rest.1 in
        record { plain = (h.place, h.within, k.within, tt); recursive = tt; all = (h.place, h.within, k.within, tt); rest = k.rest }
    binds-read (of_bind p q c d b) g =
        let h = pat-good file P N c g in
        let k = exp-good d h.rest.1 in
        let m = binds-read b k.rest.1 in
        record { plain = (h.place, h.within, k.within, m.plain); recursive = m.recursive; all = (h.place, h.within, k.within, m.all); rest = m.rest }
    binds-read (of_rec p b) g = let m = binds-read b g.1 in record { plain = tt; recursive = m.all; all = m.all; rest = m.rest }

    funs-good : {f : Fixity} {i o : List Terminal} {fs : Funs} → ReadsFuns f i fs o → Good i → AllByRecursion (FunctionIn P N) (functions file fs) × Good o
    funs-good (of_last_fun v n c) g = let h = clauses-good c g in (((h.place, h.own.0, h.own.1, h.clauses), tt), h.rest)
    funs-good (of_fun_and v n p c d) g = let h = clauses-good c g in let k = funs-good d h.rest.1 in (((h.place, h.own.0, h.own.1, h.clauses), k.0), k.1)

    clauses-good : {f : Fixity} {v : Vid} {n : ℕ} {i o : List Terminal} {cs : Clauses} → ReadsClauses f v n i cs o → Good i → ClausesGood cs o
    clauses-good (of_last_clause {s} {e} p h a b t d) g =
        let m = head-good file P N h g in
        let k = exp-good d (maybe_ty-rest _ t m.rest).1 in
        let body = with_result-in P N (at file (exp_place e)) (bare_exp file e) (bare_some file s) k.place k.within in
        record { place = m.place; own = m.own; clauses = ((m.place, m.pats, body), tt); rest = k.rest }
    clauses-good (of_clause {s} {e = x} p q h a b t e d c) g =
        let m = head-good file P N h g in
        let k = exp-good d (maybe_ty-rest _ t m.rest).1 in
        let n = clauses-good c k.rest.1 in
        let body = with_result-in P N (at file (exp_place x)) (bare_exp file x) (bare_some file s) k.place k.within in
        record { place = m.place; own = m.own; clauses = ((m.place, m.pats, body), n.clauses); rest = n.rest }
