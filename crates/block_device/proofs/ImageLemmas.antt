-- What an image reads as, by what its log replays to.
use Rattle.std.proofs.Common.{◌≡◌, inr, ℕ, suc, ◌+◌, ◌-◌, ◌*◌, ◌/◌, ◌<◌, List, [], ◌∷◌, length, get_or, refl, sym, ◌∙◌, ap, ap₂, subst, arith}
use Rattle.line_device.specs.Medium.{Medium, last_image}
use Rattle.line_device.proofs.TornLemmas.{torn-only}
use Rattle.word_tables.specs.declared.geometry.Geometry.{Geometry}
use Rattle.word_tables.specs.Bounds.{IsValid}
use Rattle.word_tables.specs.Layout.{block_map, first_line, total_lines}
use Rattle.word_tables.specs.Words.{place, of_block}
use Rattle.word_log.specs.Area.{IsWhole}
use Rattle.word_log.specs.Replay.{Replays, replayed}
use Rattle.word_log.specs.Rest.{IsAtRest}
use Rattle.word_log.proofs.PhaseLemmas.{images_rest}
use Rattle.block_map.specs.declared.state.BlockState.{BlockState}
use Rattle.block_map.specs.declared.state.BlockState.TheVariants.{Absent, Scarred, At}
use Rattle.block_map.specs.States.{IsMap, state_of, word_of}
use Rattle.nvm_model.specs.Numbered.{list_from}
use Rattle.nvm_model.specs.Storage.{Block}
use Rattle.block_device.specs.Area.{block_area}
use Rattle.block_device.specs.Object.{BlocksState, BlocksServe, AreDurable, HasGoodMetadata, blocks_of, map_words}
use Rattle.block_device.specs.Reading.{map_read, states_read, blocks_read}
use Rattle.block_device.specs.Images.{IsBlockImage, ReadsAs, EachReads}
use Rattle.block_device.proofs.ReadLemmas.{map_read-same}
use Rattle.block_device.proofs.PlaceLemmas.{area_fits, area_whole, block_is_home, named_is_data, image_on_area}

pub state_of-word_of : (state : BlockState) → state_of (word_of state) ≡ state
state_of-word_of Absent = refl
state_of-word_of Scarred = refl
state_of-word_of (At unit) = subst (λ n. state_of n ≡ At unit) (two unit) refl
  where
    two : (n : ℕ) → suc (suc n) ≡ n + 2
    two n = omega arith

pub list_from-items : {A : Type 0} (xs : List A) (d : A) (n : ℕ) (f : ℕ → A) → ((k : ℕ) → k < length xs → f (n + k) ≡ get_or xs k d) → list_from f n (length xs) ≡ xs
list_from-items [] d n f same = refl
list_from-items (x ∷ xs) d n f same =
    let here : n + 0 ≡ n = omega arith in
    let next : (k : ℕ) → n + suc k ≡ suc n + k = λ k. omega arith in
    ap₂ ◌∷◌ (ap f (sym here) ∙ same 0 (omega arith)) (list_from-items xs d (suc n) f (λ k below. ap f (sym (next k)) ∙ same (suc k) (omega arith)))

-- the words of a map are those of its states
pub map_words-at : (geo : Geometry) (states : List BlockState) (block : ℕ) → map_words geo states (place geo (of_block block)) ≡ word_of (get_or states block Absent)
map_words-at geo states block =
    let e : 8 * first_line geo block_map + block - 8 * first_line geo block_map ≡ block = omega arith in
    ap (λ b. word_of (get_or states b Absent)) e

pub states_read-is : (geo : Geometry) (states : List BlockState) (image : ℕ → ℕ) → IsValid geo → length states ≡ geo.blocks → Replays (block_area geo) image (map_words geo states) → states_read geo image ≡ states
unfolding states_read
states_read-is geo states image valid all replays =
    let f : ℕ → BlockState = λ b. state_of (replayed (block_area geo) image (place geo (of_block b))) in
    let at : (k : ℕ) → k < length states → f (0 + k) ≡ get_or states k Absent =
    λ k below. let e : 0 + k ≡ k = omega arith in
    ap f e ∙ ap state_of (replays.home (place geo (of_block k)) (block_is_home geo valid k (omega arith)) ∙ map_words-at geo states k) ∙ state_of-word_of (get_or states k Absent) in
    ap (list_from f 0) (sym all) ∙ list_from-items states Absent 0 f at

-- An image that replays to the words of a map reads as the map's blocks, since what it names is durable.
pub reads : (geo : Geometry) (m : Medium) (states : List BlockState) (image : ℕ → ℕ) → IsValid geo → length states ≡ geo.blocks → IsMap states → AreDurable geo m states → IsBlockImage geo m image → Replays (block_area geo) image (map_words geo states) → ReadsAs geo m (λ bs. bs ≡ map_read geo m.is_bad (last_image m) states) image
unfolding blocks_read
reads geo m states image valid all is_map durable is replays =
    let same = states_read-is geo states image valid all replays in
    record {
      log = replays.valid;
      map = subst IsMap (sym same) is_map;
      durable = subst (AreDurable geo m) (sym same) durable;
      blocks =
          ap (map_read geo m.is_bad image) same
          ∙ map_read-same geo m.is_bad m.is_bad (last_image m) image states
          (λ n _. refl)
          (λ p named good.
          torn-only (last_image m p) (image p) (m.history p) (durable named.block named.unit named.at p named.from named.to)
          (is p (inr (inr (named_is_data geo valid states (p / 8) all is_map named))) good));
    }

pub reads-then : (geo : Geometry) (m : Medium) (P Q : List Block → Type 0) (image : ℕ → ℕ) → ((bs : List Block) → P bs → Q bs) → ReadsAs geo m P image → ReadsAs geo m Q image
reads-then geo m P Q image then_ x = record { log = x.log; map = x.map; durable = x.durable; blocks = then_ (blocks_read geo m.is_bad image) x.blocks }

pub each_reads-then : (geo : Geometry) (m : Medium) (P Q : List Block → Type 0) → ((bs : List Block) → P bs → Q bs) → EachReads geo m P → EachReads geo m Q
each_reads-then geo m P Q then_ each image is = reads-then geo m P Q image then_ (each image is)

-- each image of a log at rest does
pub each_reads-rest : (geo : Geometry) (m : Medium) (states : List BlockState) → IsValid geo → m.count ≡ total_lines geo → IsWhole (block_area geo) m → length states ≡ geo.blocks → IsMap states → AreDurable geo m states → IsAtRest (block_area geo) m (map_words geo states) → EachReads geo m (λ bs. bs ≡ map_read geo m.is_bad (last_image m) states)
each_reads-rest geo m states valid count whole all is_map durable rest image is =
    reads geo m states image valid all is_map durable is
    (images_rest (block_area geo) (map_words geo states) m (area_fits geo valid m count) rest image (image_on_area geo valid m image whole is))

-- so does each image of blocks that are served
pub served_reads : (s : BlocksState) (m : Medium) → HasGoodMetadata s.geo m → BlocksServe s m → EachReads s.geo m (λ bs. bs ≡ blocks_of s m)
served_reads s m good serves =
    each_reads-rest s.geo m s.map serves.valid serves.count (area_whole s.geo serves.valid m good) serves.all serves.is_map serves.durable serves.rest
