-- Identifiers of values, by what stands first.
use Rattle.std.proofs.Common.{◌≡◌, List, [], ◌∷◌, Option, Some, None, refl, ap}
use Rattle.mlc_names.specs.declared.token.Reserved.TheVariants as res
use Rattle.sml_tree.specs.Terminal.{Terminal, LongVid, reserved}
use Rattle.sml_tree.specs.Fixity.{Fixity}
use Rattle.sml_tree.specs.ReadTree.{Placed}
use Rattle.sml_tree.specs.declared.ident.Vid.{Vid}
use Rattle.sml_grammar.specs.Terminals.{Taken, taken, place_at, place_of, placed_if, first_as, as_any_vid, as_any_long, as_qualified, long_if, long_named_if, named_if, short, after_word, binds_vid, names_vid, plain_vid}
use Rattle.sml_phrases.specs.VidPlace.{vid_place}

pub long-short : (i : List Terminal) (v : Vid) (o : List Terminal) → first_as as_any_vid i ≡ taken (record { place = place_at i; it = v }) o → first_as as_any_long i ≡ taken (record { place = place_at i; it = short v }) o
long-short [] v o h = absurd (cc)
long-short (t ∷ m) v o h = go (as_any_vid t) h
  where
    go : (w : Option Vid) → placed_if (place_of t) w m ≡ taken (record { place = place_of t; it = v }) o → placed_if (place_of t) (long_if (as_qualified t) w) m ≡ taken (record { place = place_of t; it = short v }) o
    go (Some w) e = ap (λ (x : Option (Taken (Placed Vid))). shorten x) e
      where
        shorten : Option (Taken (Placed Vid)) → Option (Taken (Placed LongVid))
        shorten (Some x) = taken (record { place = x.it.place; it = short x.it.it }) x.rest
        shorten None = None
    go None e = absurd (cc)

pub long-qualified : (i : List Terminal) (x : LongVid) (o : List Terminal) → first_as as_any_vid i ≡ None → first_as as_qualified i ≡ taken (record { place = place_at i; it = x }) o → first_as as_any_long i ≡ taken (record { place = place_at i; it = x }) o
long-qualified [] x o g h = absurd (cc)
long-qualified (t ∷ m) x o g h = go (as_any_vid t) (as_qualified t) g h
  where
    go : (w : Option Vid) (q : Option LongVid) → placed_if (place_of t) w m ≡ None → placed_if (place_of t) q m ≡ taken (record { place = place_of t; it = x }) o → placed_if (place_of t) (long_if q w) m ≡ taken (record { place = place_of t; it = x }) o
    go (Some w) q e f = absurd (cc)
    go None (Some q) e f = f
    go None None e f = absurd (cc)

pub long-none : (i : List Terminal) → first_as as_any_vid i ≡ None → first_as as_qualified i ≡ None → first_as as_any_long i ≡ None
long-none [] g h = refl
long-none (t ∷ m) g h = go (as_any_vid t) (as_qualified t) g h
  where
    go : (w : Option Vid) (q : Option LongVid) → placed_if (place_of t) w m ≡ None → placed_if (place_of t) q m ≡ None → placed_if (place_of t) (long_if q w) m ≡ None
    go (Some w) q e f = absurd (cc)
    go None (Some q) e f = absurd (cc)
    go None None e f = refl

-- the place after `op`, and without it

pub place-op : (i o : List Terminal) → after_word res.Op i ≡ Some o → vid_place i ≡ place_at o
place-op [] o h = absurd (cc)
place-op (reserved p res.Op ∷ m) o h = let q : m ≡ o = cc in ap place_at q
place-op (reserved p w ∷ m) o h = absurd (cc)
place-op (t ∷ m) o h = absurd (cc)

pub place-plain : (i : List Terminal) → after_word res.Op i ≡ None → vid_place i ≡ place_at i
place-plain (reserved p res.Op ∷ m) h = absurd (cc)
place-plain _ h = refl

-- without `op`

pub binds-op : (f : Fixity) (i o : List Terminal) → after_word res.Op i ≡ Some o → binds_vid f i ≡ first_as as_any_vid o
binds-op f [] o h = absurd (cc)
binds-op f (reserved p res.Op ∷ m) o h = let q : m ≡ o = cc in ap (first_as as_any_vid) q
binds-op f (reserved p w ∷ m) o h = absurd (cc)
binds-op f (t ∷ m) o h = absurd (cc)

pub binds-plain : (f : Fixity) (i : List Terminal) → after_word res.Op i ≡ None → binds_vid f i ≡ named_if (plain_vid f i)
binds-plain f (reserved p res.Op ∷ m) h = absurd (cc)
binds-plain f _ h = refl

pub names-op : (f : Fixity) (i o : List Terminal) → after_word res.Op i ≡ Some o → names_vid f i ≡ first_as as_any_long o
names-op f [] o h = absurd (cc)
names-op f (reserved p res.Op ∷ m) o h = let q : m ≡ o = cc in ap (first_as as_any_long) q
names-op f (reserved p w ∷ m) o h = absurd (cc)
names-op f (t ∷ m) o h = absurd (cc)

pub names-plain : (f : Fixity) (i : List Terminal) → after_word res.Op i ≡ None → names_vid f i ≡ long_named_if (first_as as_qualified i) (plain_vid f i)
names-plain f (reserved p res.Op ∷ m) h = absurd (cc)
names-plain f _ h = refl
