pub mod ListedSound
