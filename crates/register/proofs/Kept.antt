-- The records of a book in the register, call by call. Assumes nothing.
use Rattle.std.proofs.Common.{◌≡◌, ℕ, zero, suc, ◌+◌, ◌-◌, ◌<◌, ◌≤◌, List, [], ◌∷◌, ◌++◌, map, length, get_or, take, drop, set, sym, refl, ap, ◌∙◌, append_assoc, arith}
use Rattle.std.proofs.lemmas.List.{take-append-drop, length-append, length-map, length-take, length-take-le, length-drop, take-append-le, drop-append-le, map-append, take-set-le, drop-set-add, set_split, set-get_or, get_or_at, get_or_append_left, get_or-map}
use Rattle.refusals.proofs.Numbers.{at_most}
use Rattle.ledgers.specs.Book.{Book, holding}
use Rattle.register.specs.Register.{Kept, Phase, day_ahead, real_time, one_if_phase, Standing, stands, in_phase}
use Rattle.register.specs.Views.{phase_of, kept}

module _ {P : Type 0} (p : Phase) (b : Book P) where
  -- as many as stand
  pub kept_length : length (kept p b) ≡ length b.items
  kept_length =
      let one = length-append (map (in_phase day_ahead) (take b.mark b.items)) (map (in_phase p) (drop b.mark b.items)) in
      let two = length-map (take b.mark b.items) (in_phase day_ahead) in
      let three = length-map (drop b.mark b.items) (in_phase p) in
      let four = length-take b.mark b.items in
      let five = length-drop b.mark b.items in
      omega arith

  -- records added at the end are of the open phase
  pub kept_more : (more : List P) → b.mark ≤ length b.items → kept p (holding b (b.items ++ more)) ≡ kept p b ++ map (in_phase p) more
  kept_more more low =
      let one = take-append-le b.mark b.items more low in
      let two = drop-append-le b.mark b.items more low in
      let three = map-append (in_phase p) (drop b.mark b.items) more in
      let four = append_assoc (map (in_phase day_ahead) (take b.mark b.items)) (map (in_phase p) (drop b.mark b.items)) (map (in_phase p) more) in
      ap (λ xs. map (in_phase day_ahead) xs ++ map (in_phase p) (drop b.mark (b.items ++ more))) one
      ∙ ap (λ xs. map (in_phase day_ahead) (take b.mark b.items) ++ map (in_phase p) xs) two
      ∙ ap (λ xs. map (in_phase day_ahead) (take b.mark b.items) ++ xs) three
      ∙ sym four

-- ---- one record of the open phase

module _ {P : Type 0} (p : Phase) (b : Book P) (i : ℕ) where
  -- what stands before the record of that number, and after it
  abbrev pub front_of : List (Kept P)
  front_of = map (in_phase day_ahead) (take b.mark b.items) ++ map (in_phase p) (take (i - b.mark) (drop b.mark b.items))

  abbrev pub back_of : List (Kept P)
  back_of = map (in_phase p) (drop (suc (i - b.mark)) (drop b.mark b.items))

  pub front_length : b.mark ≤ i → i < length b.items → length front_of ≡ i
  front_length low high =
      let inner = drop b.mark b.items in
      let long = length-drop b.mark b.items in
      let one = length-append (map (in_phase day_ahead) (take b.mark b.items)) (map (in_phase p) (take (i - b.mark) inner)) in
      let two = length-map (take b.mark b.items) (in_phase day_ahead) in
      let three = length-map (take (i - b.mark) inner) (in_phase p) in
      let four = length-take-le b.mark b.items (omega arith) in
      let five = length-take-le (i - b.mark) inner (omega arith) in
      omega arith

  -- with that record replaced
  pub kept_set : (y : P) → b.mark ≤ i → i < length b.items → kept p (holding b (set b.items i y)) ≡ front_of ++ (in_phase p y ∷ back_of)
  kept_set y low high =
      let j = i - b.mark in
      let inner = drop b.mark b.items in
      let there : b.mark + j ≡ i = omega arith in
      let long = length-drop b.mark b.items in
      let inside : j < length inner = omega arith in
      let f : P → Kept P = in_phase p in
      let early = map (in_phase day_ahead) (take b.mark b.items) in
      let one = take-set-le b.mark b.items i y low in
      let two : drop b.mark (set b.items i y) ≡ take j inner ++ (y ∷ drop (suc j) inner) =
      ap (λ z. drop b.mark (set b.items z y)) (sym there) ∙ drop-set-add b.mark b.items j y ∙ set_split inner j y inside in
      ap (λ xs. map (in_phase day_ahead) xs ++ map f (drop b.mark (set b.items i y))) one
      ∙ ap (λ xs. early ++ map f xs) two
      ∙ ap (λ xs. early ++ xs) (map-append f (take j inner) (y ∷ drop (suc j) inner))
      ∙ sym (append_assoc early (map f (take j inner)) (f y ∷ map f (drop (suc j) inner)))

  -- as it is
  pub kept_at : (x : P) → b.mark ≤ i → i < length b.items → x ≡ get_or b.items i x → kept p b ≡ front_of ++ (in_phase p x ∷ back_of)
  kept_at x low high is =
      ap (λ xs. kept p (holding b xs)) (sym (ap (set b.items i) is ∙ set-get_or b.items i x)) ∙ kept_set x low high

-- a number has one record
pub one_record : {P : Type 0} {p : Phase} {all : List (Kept P)} {i : ℕ} {e f : P} → Standing P p all i e → Standing P p all i f → e ≡ f
one_record {P} {p} {all} {i} {e} {f} (stands before after is at_i) (stands front back is' at_i') =
    let x = in_phase p e in
    let one = get_or_at before x after x i at_i in
    let two = get_or_at front (in_phase p f) back x i at_i' in
    let same : x ≡ in_phase p f = sym one ∙ ap (λ (xs : List (Kept P)). get_or xs i x) (sym is ∙ is') ∙ two in
    ap (λ (k : Kept P). k.entry) same

-- a record that stands in the open phase stands past the mark
pub past_mark : {P : Type 0} (k : ℕ) (b : Book P) (i : ℕ) (e : P) → (k ≡ 0 → b.mark ≡ 0) → Standing P (phase_of k) (kept (phase_of k) b) i e → b.mark ≤ i
past_mark zero b i e fresh s = let z = fresh refl in omega arith
past_mark {P} (suc k) b i e fresh (stands before after is at_i) =
    at_most b.mark i (λ l.
    let x : Kept P = in_phase real_time e in
    let early = map (in_phase day_ahead) (take b.mark b.items) in
    let late = map (in_phase real_time) (drop b.mark b.items) in
    let long = kept_length real_time b in
    let grown = ap length is in
    let both = length-append before (x ∷ after) in
    let short = length-take b.mark b.items in
    let width = length-map (take b.mark b.items) (in_phase day_ahead) in
    let inside : i < length (take b.mark b.items) = omega arith in
    let one = get_or_at before x after x i at_i in
    let two = get_or_append_left early late x i (omega arith) in
    let three = get_or-map (in_phase day_ahead) (take b.mark b.items) i e x inside in
    let four : x ≡ in_phase day_ahead (get_or (take b.mark b.items) i e) = sym one ∙ ap (λ (xs : List (Kept P)). get_or xs i x) (sym is) ∙ two ∙ three in
    let five : ◌≡◌ {A = ℕ} 0 1 = ap (λ (z : Kept P). one_if_phase z.phase day_ahead) four in
    omega arith)

pub below_end : {P : Type 0} (p : Phase) (b : Book P) (i : ℕ) (e : P) → Standing P p (kept p b) i e → i < length b.items
below_end p b i e (stands before after is at_i) =
    let long = kept_length p b in
    let grown = ap length is in
    let both = length-append before (in_phase p e ∷ after) in
    omega arith

entries_of : {P : Type 0} (p : Phase) (xs : List P) → map (λ (k : Kept P). k.entry) (map (in_phase p) xs) ≡ xs
entries_of p [] = refl
entries_of p (x ∷ xs) = ap (λ ys. x ∷ ys) (entries_of p xs)

-- the records themselves, whatever their phases
pub kept_entries : {P : Type 0} (p : Phase) (b : Book P) → map (λ (k : Kept P). k.entry) (kept p b) ≡ b.items
kept_entries {P} p b =
    let f : Kept P → P = λ k. k.entry in
    let early = take b.mark b.items in
    let late = drop b.mark b.items in
    map-append f (map (in_phase day_ahead) early) (map (in_phase p) late)
    ∙ ap (λ xs. xs ++ map f (map (in_phase p) late)) (entries_of day_ahead early)
    ∙ ap (λ xs. early ++ xs) (entries_of p late)
    ∙ take-append-drop b.mark b.items
