pub mod TextRead
pub mod KeysPut
